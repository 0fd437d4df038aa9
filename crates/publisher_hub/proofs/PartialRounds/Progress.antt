-- A round over the numbers of the live subscriptions, as far as it has come: what each subscription answered, and what
-- became of it.
use Rattle.std.proofs.Common.{◌≡◌, ◌⊎◌, ℕ, zero, suc, ◌+◌, ◌<◌, ◌≤◌, Option, None, Some, List, [], ◌∷◌, ◌++◌, append_assoc, length, replicate, set, refl, ap, sym, subst, ◌∙◌, inl, inr, arith}
use Rattle.std.specs.Prelude.{slice_get}
use Rattle.std.proofs.lemmas.List.{append-nil, length-replicate, length-set}
use Rattle.std.proofs.lemmas.Bool.{cases_lt}
use Rattle.publisher_hub.specs.Lists.{EachBy, gather}
use Rattle.publisher_hub.specs.Sound.{AreNumbers}
use Rattle.publisher_hub.proofs.AnswerLists.Updates.{get_elsewhere, get_there}

-- this number is among the first n of these
abbrev pub IsAmong : List ℕ → ℕ → ℕ → Type 0
IsAmong live n k = (i : ℕ) × ((i < n) × (slice_get live i ≡ Some k))

-- the elements at the first n numbers have become what R says, and the others are as they were and gave no answer
pub record Upto {B A : Type 0} (R : B → A → A → Type 0) (quiet : B) (live : List ℕ) (n : ℕ) (answers : List B) (xs ys : List A) : Type 0 where
  pub answered : length answers ≡ length xs
  pub as_long : length ys ≡ length xs
  pub done : (i k : ℕ) (answer : B) (x y : A) → i < n → slice_get live i ≡ Some k → slice_get answers k ≡ Some answer
      → slice_get xs k ≡ Some x → slice_get ys k ≡ Some y → R answer x y
  pub rest : (k : ℕ) → (IsAmong live n k → ⊥) → slice_get ys k ≡ slice_get xs k
  pub quiets : (k : ℕ) (answer : B) → (IsAmong live n k → ⊥) → slice_get answers k ≡ Some answer → answer ≡ quiet

-- a value that is there is some value
pub same_some : {X : Type 0} {a b : X} → Some a ≡ Some b → a ≡ b
same_some e = cc

-- if a list repeats an element, that element stands at each place
pub all_one : {X : Type 0} (many place : ℕ) (x y : X) → slice_get (replicate many x) place ≡ Some y → y ≡ x
all_one zero place x y e = cc
all_one (suc many) zero x y e = cc
all_one (suc many) (suc place) x y e = all_one many place x y e

-- at first nothing is done
pub upto_none : {B A : Type 0} (R : B → A → A → Type 0) (quiet : B) (live : List ℕ) (xs : List A)
    → Upto R quiet live 0 (replicate (length xs) quiet) xs xs
upto_none {B} R quiet live xs = record {
  answered = length-replicate {A = B} (length xs) quiet;
  as_long = refl;
  done = λ i k answer x y before at at' at'' now. let low : i < 0 = before in absurd (omega arith);
  rest = λ k other. refl;
  quiets = λ k answer other at. all_one (length xs) k quiet answer at;
}

-- no number stands at two places of a rising list
pub one_place : (live : List ℕ) (many i j k : ℕ) → AreNumbers live many → slice_get live i ≡ Some k → slice_get live j ≡ Some k → i < j → ⊥
one_place live many i j k numbers at at' before = let rises : k < k = numbers.rising i j k k at at' before in absurd (omega arith)

-- a number below the next number is below this one, or is this one
pub below_or_last : (i n : ℕ) → i < n + 1 → (i < n) ⊎ (i ≡ n)
below_or_last i n before = by (cases_lt i n) where
  by : (i < n) ⊎ (n ≤ i) → (i < n) ⊎ (i ≡ n)
  by (inl below) = inl below
  by (inr above) = inr (omega arith)

-- the next number is not among those before it
pub next_is_other : (live : List ℕ) (many n k : ℕ) → AreNumbers live many → slice_get live n ≡ Some k → IsAmong live n k → ⊥
next_is_other live many n k numbers number among = one_place live many among.0 n k numbers among.1.1 number among.1.0

-- the next number is done
pub upto_next : {B A : Type 0} (R : B → A → A → Type 0) (quiet : B) (live : List ℕ) (n k : ℕ) (answers : List B) (xs ys : List A) (answer : B) (x y : A) → AreNumbers live (length xs)
    → slice_get live n ≡ Some k → slice_get xs k ≡ Some x → R answer x y → Upto R quiet live n answers xs ys
    → Upto R quiet live (n + 1) (set answers k answer) xs (set ys k y)
upto_next {B} {A} R quiet live n k answers xs ys answer x y numbers number at became upto =
    record {
      answered = length-set answers k answer ∙ upto.answered;
      as_long = length-set ys k y ∙ upto.as_long;
      done = λ i m a old new before at_live at_answers at_xs at_new. by i m a old new (below_or_last i n before) at_live at_answers at_xs at_new;
      rest = λ m other. get_elsewhere ys k m y (λ same. other (n, (omega arith, subst (λ j. slice_get live n ≡ Some j) same number)))
          ∙ upto.rest m (λ among. other (among.0, (let low = among.1.0 in omega arith, among.1.1)));
      quiets = λ m a other at. upto.quiets m a (λ among. other (among.0, (let low = among.1.0 in omega arith, among.1.1)))
          (sym (get_elsewhere answers k m answer (λ same. other (n, (omega arith, subst (λ j. slice_get live n ≡ Some j) same number)))) ∙ at);
    } where
      by : (i m : ℕ) (a : B) (old new : A) → (i < n) ⊎ (i ≡ n) → slice_get live i ≡ Some m → slice_get (set answers k answer) m ≡ Some a
          → slice_get xs m ≡ Some old → slice_get (set ys k y) m ≡ Some new → R a old new
      by i m a old new (inl before) at_live at_answers at_xs at_new =
          let other : k ≡ m → ⊥ =
          λ same. one_place live (length xs) i n k numbers (subst (λ j. slice_get live i ≡ Some j) (sym same) at_live) number before in
          upto.done i m a old new before at_live (sym (get_elsewhere answers k m answer other) ∙ at_answers) at_xs (sym (get_elsewhere ys k m y other) ∙ at_new)
      by i m a old new (inr last) at_live at_answers at_xs at_new =
          let same : k ≡ m = same_some (sym number ∙ subst (λ j. slice_get live j ≡ Some m) last at_live) in
          let within : k < length xs = numbers.within n k number in
          let is_long = upto.as_long in
          let is_answered = upto.answered in
          let within_ys : k < length ys = omega arith in
          let within_answers : k < length answers = omega arith in
          let was : x ≡ old = same_some (sym at ∙ subst (λ j. slice_get xs j ≡ Some old) (sym same) at_xs) in
          let now : y ≡ new =
          same_some (sym (get_there ys k y within_ys) ∙ subst (λ j. slice_get (set ys k y) j ≡ Some new) (sym same) at_new) in
          let said : answer ≡ a =
          same_some (sym (get_there answers k answer within_answers) ∙ subst (λ j. slice_get (set answers k answer) j ≡ Some a) (sym same) at_answers) in
          subst (λ (b : B). R b old new) said (subst (λ (entry : A). R answer old entry) now (subst (λ (entry : A). R answer entry y) was became))

-- whether a number is among the first n of these
pub found_or_not : (live : List ℕ) (n k : ℕ) → IsAmong live n k ⊎ (IsAmong live n k → ⊥)
found_or_not live zero k = inr (λ among. let low : among.0 < 0 = among.1.0 in absurd (omega arith))
found_or_not live (suc n) k = by (found_or_not live n k) (slice_get live n) refl where
  here : (at : Option ℕ) → slice_get live n ≡ at → (IsAmong live n k → ⊥) → IsAmong live (suc n) k ⊎ (IsAmong live (suc n) k → ⊥)
  here None is none = inr (λ among. pick among (below_or_last among.0 n (let low = among.1.0 in omega arith))) where
    pick : (among : IsAmong live (suc n) k) → (among.0 < n) ⊎ (among.0 ≡ n) → ⊥
    pick among (inl low) = none (among.0, (low, among.1.1))
    pick among (inr last) = let e = sym is ∙ subst (λ j. slice_get live j ≡ Some k) last among.1.1 in cc
  here (Some m) is none = decide (cases_lt m k) (cases_lt k m) where
    other : (m ≡ k → ⊥) → (among : IsAmong live (suc n) k) → (among.0 < n) ⊎ (among.0 ≡ n) → ⊥
    other differs among (inl low) = none (among.0, (low, among.1.1))
    other differs among (inr last) = differs (same_some (sym is ∙ subst (λ j. slice_get live j ≡ Some k) last among.1.1))

    decide : (m < k) ⊎ (k ≤ m) → (k < m) ⊎ (m ≤ k) → IsAmong live (suc n) k ⊎ (IsAmong live (suc n) k → ⊥)
    decide (inl low) b =
        inr (λ among. other (λ same. let less : m < k = low in absurd (omega arith)) among (below_or_last among.0 n (let before = among.1.0 in omega arith)))
    decide (inr high) (inl low) =
        inr (λ among. other (λ same. let less : k < m = low in absurd (omega arith)) among (below_or_last among.0 n (let before = among.1.0 in omega arith)))
    decide (inr high) (inr low) = inl (n, (omega arith, is ∙ ap Some (omega arith)))

  by : IsAmong live n k ⊎ (IsAmong live n k → ⊥) → (at : Option ℕ) → slice_get live n ≡ at
      → IsAmong live (suc n) k ⊎ (IsAmong live (suc n) k → ⊥)
  by (inl among) at is = inl (among.0, (let low = among.1.0 in omega arith, among.1.1))
  by (inr none) at is = here at is none

-- wherever the round stops, each element has become what R says, if that holds of those that stay as they were and give
-- no answer
pub upto_each : {B A : Type 0} (R : B → A → A → Type 0) (quiet : B) (live : List ℕ) (n : ℕ) (answers : List B) (xs ys : List A)
    → ((k : ℕ) (x : A) → slice_get xs k ≡ Some x → (IsAmong live n k → ⊥) → R quiet x x) → Upto R quiet live n answers xs ys
    → EachBy R answers xs ys
upto_each {B} {A} R quiet live n answers xs ys others upto = record {
  answered = upto.answered;
  as_long = upto.as_long;
  each = λ k answer x y said at at'. by k answer x y said at at' (found_or_not live n k);
} where
  by : (k : ℕ) (answer : B) (x y : A) → slice_get answers k ≡ Some answer → slice_get xs k ≡ Some x → slice_get ys k ≡ Some y
      → IsAmong live n k ⊎ (IsAmong live n k → ⊥) → R answer x y
  by k answer x y said at at' (inl among) = upto.done among.0 k answer x y among.1.0 among.1.1 said at at'
  by k answer x y said at at' (inr other) =
      subst (λ (b : B). R b x y) (sym (upto.quiets k answer other said)) (subst (λ (entry : A). R quiet x entry) (same_some (sym at ∙ sym (upto.rest k other) ∙ at')) (others k x at other))

-- answers that gather nothing
gather_quiet : {B C : Type 0} (each : ℕ → B → List C) (quiet : B) (answers : List B) (place : ℕ) → ((p : ℕ) → each p quiet ≡ [])
    → ((i : ℕ) (answer : B) → slice_get answers i ≡ Some answer → answer ≡ quiet) → gather each place answers ≡ []
unfolding gather
gather_quiet each quiet [] place none all = refl
gather_quiet each quiet (answer ∷ answers) place none all =
    ap (λ b. each place b ++ gather each (suc place) answers) (all 0 answer refl)
    ∙ ap (λ cs. cs ++ gather each (suc place) answers) (none place)
    ∙ gather_quiet each quiet answers (suc place) none (λ i a at. all (suc i) a at)

-- if the answers from a place on gather nothing, an answer there is gathered behind those before it
gather_set : {B C : Type 0} (each : ℕ → B → List C) (quiet : B) (answers : List B) (place k : ℕ) (answer : B)
    → ((p : ℕ) → each p quiet ≡ [])
    → k < length answers → ((i : ℕ) (a : B) → k ≤ i → slice_get answers i ≡ Some a → a ≡ quiet)
    → gather each place (set answers k answer) ≡ gather each place answers ++ each (place + k) answer
unfolding gather
gather_set each quiet [] place k answer none within all = let low : k < 0 = within in absurd (omega arith)
gather_set each quiet (first ∷ answers) place zero answer none within all =
    let nothing = gather_quiet each quiet answers (suc place) none (λ i a at. all (suc i) a (omega arith) at) in
    let before : gather each place (first ∷ answers) ≡ [] =
    gather_quiet each quiet (first ∷ answers) place none (λ i a at. all i a (omega arith) at) in
    let there : place + 0 ≡ place = omega arith in
    ap (λ cs. each place answer ++ cs) nothing ∙ append-nil (each place answer) ∙ ap (λ p. each p answer) (sym there)
    ∙ ap (λ cs. cs ++ each (place + 0) answer) (sym before)
gather_set each quiet (first ∷ answers) place (suc k) answer none within all =
    let later = gather_set each quiet answers (suc place) k answer none (omega arith) (λ i a low at. all (suc i) a (omega arith) at) in
    let there : suc place + k ≡ place + suc k = omega arith in
    ap (λ cs. each place first ++ cs) later
    ∙ sym (append_assoc (each place first) (gather each (suc place) answers) (each (suc place + k) answer))
    ∙ ap (λ p. (each place first ++ gather each (suc place) answers) ++ each p answer) there

-- what the answers gather once the next number is done
pub gather_next : {B A C : Type 0} (each : ℕ → B → List C) (R : B → A → A → Type 0) (quiet : B) (live : List ℕ) (n k : ℕ) (answers : List B) (xs ys : List A) (answer : B) → ((p : ℕ) → each p quiet ≡ [])
    → AreNumbers live (length xs) → slice_get live n ≡ Some k → Upto R quiet live n answers xs ys
    → gather each 0 (set answers k answer) ≡ gather each 0 answers ++ each k answer
gather_next {B} each R quiet live n k answers xs ys answer none numbers number upto =
    gather_set each quiet answers 0 k answer none (let is_answered = upto.answered in let within = numbers.within n k number in omega arith)
    (λ i a low at. upto.quiets i a (λ among. let rises = numbers.rising among.0 n i k among.1.1 number among.1.0 in absurd (omega arith)) at)
    ∙ ap (λ p. gather each 0 answers ++ each p answer) (omega arith)

-- at first nothing is gathered
pub gather_none : {B C : Type 0} (each : ℕ → B → List C) (quiet : B) (many : ℕ) → ((p : ℕ) → each p quiet ≡ [])
    → gather each 0 (replicate many quiet) ≡ []
gather_none each quiet many none = gather_quiet each quiet (replicate many quiet) 0 none (λ i a at. all_one many i quiet a at)
