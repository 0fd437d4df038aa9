-- Lists between two lists, place by place.
use Rattle.std.proofs.Common.{◌≡◌, ℕ, zero, suc, Some, List, [], ◌∷◌, set, refl, ap, sym, subst, ◌∙◌, arith}
use Rattle.std.specs.Prelude.{slice_get}
use Rattle.publisher_hub.specs.Lists.{Each}
use Rattle.publisher_hub.proofs.PartialRounds.Progress.{same_some}

-- what holds of the first elements and of all after them holds of all
each_more : {A : Type 0} (R : A → A → Type 0) (x y : A) (xs ys : List A) → R x y → Each R xs ys → Each R (x ∷ xs) (y ∷ ys)
each_more {A} R x y xs ys first others = record { as_long = ap suc others.as_long; each = by } where
  by : (k : ℕ) (a b : A) → slice_get (x ∷ xs) k ≡ Some a → slice_get (y ∷ ys) k ≡ Some b → R a b
  by zero a b at at' = subst (λ (c : A). R c b) (same_some at) (subst (λ (c : A). R x c) (same_some at') first)
  by (suc k) a b at at' = others.each k a b at at'

-- what holds of all holds of those after the first
each_after : {A : Type 0} (R : A → A → Type 0) (x y : A) (xs ys : List A) → Each R (x ∷ xs) (y ∷ ys) → Each R xs ys
each_after R x y xs ys all = record {
  as_long = let long = all.as_long in omega arith;
  each = λ k a b at at'. all.each (suc k) a b at at';
}

-- if something stands between the elements of each place, a list stands between the lists
pub each_between : {A : Type 0} (P Q : A → A → Type 0) (xs ys : List A) → Each (λ x y. (m : A) × (P x m × Q m y)) xs ys
    → (ms : List A) × (Each P xs ms × Each Q ms ys)
each_between P Q [] [] all = ([], (record { as_long = refl; each = λ k x y at. cc }, record { as_long = refl; each = λ k x y at. cc }))
each_between P Q [] (y ∷ ys) all = let long = all.as_long in absurd (omega arith)
each_between P Q (x ∷ xs) [] all = let long = all.as_long in absurd (omega arith)
each_between {A} P Q (x ∷ xs) (y ∷ ys) all =
    let first = all.each 0 x y refl refl in
    let later = each_between P Q xs ys (each_after (λ a b. (m : A) × (P a m × Q m b)) x y xs ys all) in
    (first.0 ∷ later.0, (each_more P x first.0 xs later.0 first.1.0 later.1.0, each_more Q first.0 y later.0 ys first.1.1 later.1.1))

-- if each element is as it was, so is the list
pub each_same : {A : Type 0} (xs ys : List A) → Each (λ x y. y ≡ x) xs ys → ys ≡ xs
each_same [] [] all = refl
each_same [] (y ∷ ys) all = let long = all.as_long in absurd (omega arith)
each_same (x ∷ xs) [] all = let long = all.as_long in absurd (omega arith)
each_same {A} (x ∷ xs) (y ∷ ys) all =
    ap (λ z. z ∷ ys) (all.each 0 x y refl refl) ∙ ap (λ zs. x ∷ zs) (each_same xs ys (each_after (λ (a b : A). b ≡ a) x y xs ys all))

-- a place that is set to what stands there is as it was
pub set_same : (xs : List ℕ) (place n : ℕ) → slice_get xs place ≡ Some n → set xs place n ≡ xs
set_same [] place n at = refl
set_same (x ∷ xs) zero n at = ap (λ z. z ∷ xs) (sym (same_some at))
set_same (x ∷ xs) (suc place) n at = ap (λ zs. x ∷ zs) (set_same xs place n at)

-- of two values that a place is set to, one after the other, the second stands
pub set_twice : (xs : List ℕ) (place n m : ℕ) → set (set xs place n) place m ≡ set xs place m
set_twice [] place n m = refl
set_twice (x ∷ xs) zero n m = refl
set_twice (x ∷ xs) (suc place) n m = ap (λ zs. x ∷ zs) (set_twice xs place n m)
