-- Lists whose elements stand in a relation place by place, as maps of one another.
use Rattle.std.proofs.Common.{◌≡◌, ℕ, suc, ◌<◌, Some, List, [], ◌∷◌, length, map, refl, ap, ◌∙◌, arith}
use Rattle.std.specs.Prelude.{slice_get}
use Rattle.std.proofs.lemmas.Option.{slice_get_within}
use Rattle.publisher_hub.specs.Lists.{Each, EachBy}
use Rattle.publisher_hub.proofs.AnswerLists.Places.{there}

-- if the relation says what a function sees of each, it says what it sees of the list
pub each_map : {A C : Type 0} (see : A → C) (change : C → C) (R : A → A → Type 0) (xs ys : List A) → Each R xs ys
    → ((k : ℕ) (x y : A) → slice_get xs k ≡ Some x → R x y → see y ≡ change (see x)) → map see ys ≡ map change (map see xs)
each_map see change R [] [] each says = refl
each_map see change R [] (y ∷ ys) each says = let long = each.as_long in cc
each_map see change R (x ∷ xs) [] each says = let long = each.as_long in cc
each_map see change R (x ∷ xs) (y ∷ ys) each says =
    ap (λ c. c ∷ map see ys) (says 0 x y refl (each.each 0 x y refl refl))
    ∙ ap (λ cs. change (see x) ∷ cs) (each_map see change R xs ys rest (λ k a b at r. says (suc k) a b at r)) where
      rest : Each R xs ys
      rest = record { as_long = (let long = each.as_long in omega arith); each = λ k a b at there. each.each (suc k) a b at there }

-- the same, if each place gave an answer
pub each_by_map : {B A C : Type 0} (see : A → C) (change : C → C) (R : B → A → A → Type 0) (answers : List B) (xs ys : List A)
    → EachBy R answers xs ys
    → ((k : ℕ) (answer : B) (x y : A) → slice_get xs k ≡ Some x → R answer x y → see y ≡ change (see x)) → map see ys ≡ map change (map see xs)
each_by_map see change R answers [] [] each says = refl
each_by_map see change R answers [] (y ∷ ys) each says = let long = each.as_long in cc
each_by_map see change R answers (x ∷ xs) [] each says = let long = each.as_long in cc
each_by_map see change R [] (x ∷ xs) (y ∷ ys) each says = let long = each.answered in cc
each_by_map see change R (answer ∷ answers) (x ∷ xs) (y ∷ ys) each says =
    ap (λ c. c ∷ map see ys) (says 0 answer x y refl (each.each 0 answer x y refl refl refl))
    ∙ ap (λ cs. change (see x) ∷ cs) (each_by_map see change R answers xs ys rest (λ k b a a' at r. says (suc k) b a a' at r)) where
      rest : EachBy R answers xs ys
      rest = record { answered = (let many = each.answered in omega arith); as_long = (let long = each.as_long in omega arith); each = λ k b a a' there at at'. each.each (suc k) b a a' there at at' }

-- what stood at a place where this stands now
pub each_stood : {A : Type 0} (R : A → A → Type 0) (xs ys : List A) (k : ℕ) (y : A) → Each R xs ys → slice_get ys k ≡ Some y
    → (x : A) × (slice_get xs k ≡ Some x) × R x y
each_stood R xs ys k y each at =
    let within : k < length ys = slice_get_within ys k y at in
    let long = each.as_long in
    let old = there xs k (omega arith) in
    (old.0, old.1, each.each k old.0 y old.1 at)
