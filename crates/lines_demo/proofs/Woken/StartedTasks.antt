-- Whose tasks the calls of a script's publisher start.
use Rattle.std.proofs.Common.{◌≡◌, ℕ, suc, ◌+◌, Bool, true, false, not, ◌&&◌, if◌then◌else◌, Some, List, [], ◌∷◌, ◌++◌, map, refl, sym, ap, ◌∙◌, arith}
use Rattle.std.specs.Prelude.{slice_get}
use Rattle.std.proofs.lemmas.List.{map-append}
use Rattle.publisher_hub.specs.Lists.{EachBy, gather}
use Rattle.publisher_hub.specs.declared.entry.Entry.{Entry}
use Rattle.publisher_hub.specs.declared.work.Work.{Work}
use Rattle.lines_demo.specs.Prelude.{DeskState, owes}
use Rattle.lines_demo.specs.Script.Session.{numbers_of, subscription_of}
use Rattle.lines_demo.specs.Script.Waking.{newly_woken}
use Rattle.lines_demo.proofs.Woken.StartedNumbers.{newly_woken_are, numbers_where, starts_of}

-- whether a subscription owes a turn now and owed none before
abbrev pub starts : Entry DeskState → Entry DeskState → Bool
starts x y = owes (subscription_of y).desk && not (owes (subscription_of x).desk)

-- the same from a place on
gathered_from : {B : Type 0} (each : ℕ → B → List (Work Unit)) (R : B → Entry DeskState → Entry DeskState → Type 0) (first : ℕ) (answers : List B) (xs ys : List (Entry DeskState)) → EachBy R answers xs ys
    → ((k : ℕ) (answer : B) (x y : Entry DeskState) → slice_get xs k ≡ Some x → R answer x y → numbers_of (each (first + k) answer) ≡ (if starts x y then (first + k) ∷ [] else []))
    → numbers_of (gather each first answers) ≡ numbers_where first (starts_of (map subscription_of xs) (map subscription_of ys))
unfolding gather
gathered_from each R first [] [] [] places says = refl
gathered_from each R first [] [] (y ∷ ys) places says = let long = places.as_long in cc
gathered_from each R first [] (x ∷ xs) ys places says = let long = places.answered in cc
gathered_from each R first (answer ∷ answers) [] ys places says = let long = places.answered in cc
gathered_from each R first (answer ∷ answers) (x ∷ xs) [] places says = let long = places.as_long in cc
gathered_from {B = B} each R first (answer ∷ answers) (x ∷ xs) (y ∷ ys) places says =
    map-append (λ (work : Work Unit). work.entry) (each first answer) (gather each (suc first) answers)
    ∙ ap (λ numbers. numbers ++ numbers_of (gather each (suc first) answers)) here
    ∙ ap (λ numbers. (if starts x y then first ∷ [] else []) ++ numbers)
    (gathered_from each R (suc first) answers xs ys rest moved ∙ ap (λ n. numbers_where n (starts_of (map subscription_of xs) (map subscription_of ys))) (omega arith))
    ∙ joined (starts x y) where
      rest : EachBy R answers xs ys
      rest = record { answered = (let many = places.answered in omega arith); as_long = (let long = places.as_long in omega arith); each = λ k b a a' said at at'. places.each (suc k) b a a' said at at' }

      here : numbers_of (each first answer) ≡ (if starts x y then first ∷ [] else [])
      here =
          ap (λ n. numbers_of (each n answer)) (omega arith) ∙ says 0 answer x y refl (places.each 0 answer x y refl refl refl)
          ∙ ap (λ n. if starts x y then n ∷ [] else []) (omega arith)

      moved : (k : ℕ) (b : B) (a a' : Entry DeskState) → slice_get xs k ≡ Some a → R b a a'
          → numbers_of (each (suc first + k) b) ≡ (if starts a a' then (suc first + k) ∷ [] else [])
      moved k b a a' at r =
          ap (λ n. numbers_of (each n b)) (omega arith) ∙ says (suc k) b a a' at r ∙ ap (λ n. if starts a a' then n ∷ [] else []) (omega arith)

      joined : (holds : Bool) → (if holds then first ∷ [] else []) ++ numbers_where (first + 1) (starts_of (map subscription_of xs) (map subscription_of ys))
          ≡ (if holds then first ∷ numbers_where (first + 1) (starts_of (map subscription_of xs) (map subscription_of ys)) else numbers_where (first + 1) (starts_of (map subscription_of xs) (map subscription_of ys)))
      joined true = refl
      joined false = refl

-- whom the answers of a round start is whom it wakes
pub gathered_woken : {B : Type 0} (each : ℕ → B → List (Work Unit)) (R : B → Entry DeskState → Entry DeskState → Type 0) (answers : List B) (xs ys : List (Entry DeskState)) → EachBy R answers xs ys
    → ((k : ℕ) (answer : B) (x y : Entry DeskState) → slice_get xs k ≡ Some x → R answer x y → numbers_of (each k answer) ≡ (if starts x y then k ∷ [] else []))
    → numbers_of (gather each 0 answers) ≡ newly_woken (map subscription_of xs) (map subscription_of ys)
gathered_woken each R answers xs ys places says =
    gathered_from each R 0 answers xs ys places (λ k b x y at r. ap (λ n. numbers_of (each n b)) (omega arith) ∙ says k b x y at r ∙ ap (λ n. if starts x y then n ∷ [] else []) (omega arith))
    ∙ sym (newly_woken_are (map subscription_of xs) (map subscription_of ys))
