-- Lists that an element was added to, or set in.
use Rattle.std.proofs.Common.{◌≡◌, ◌⊎◌, ℕ, zero, suc, Some, List, [], ◌∷◌, ◌++◌, ◌<◌, length, set, refl, ap, inl, inr, arith}
use Rattle.std.specs.Prelude.{slice_get}

-- what stands in a list with another element stood there before, or is that element
pub get_grown : {X : Type 0} (xs : List X) (x : X) (i : ℕ) (y : X) → slice_get (xs ++ x ∷ []) i ≡ Some y
    → (slice_get xs i ≡ Some y) ⊎ ((i ≡ length xs) × (x ≡ y))
get_grown [] x zero y at = inr (refl, cc)
get_grown [] x (suc i) y at = cc
get_grown (first ∷ xs) x zero y at = inl at
get_grown (first ∷ xs) x (suc i) y at = by (get_grown xs x i y at) where
  by : (slice_get xs i ≡ Some y) ⊎ ((i ≡ length xs) × (x ≡ y)) → (slice_get xs i ≡ Some y) ⊎ ((suc i ≡ suc (length xs)) × (x ≡ y))
  by (inl before) = inl before
  by (inr now) = inr (ap suc now.0, now.1)

-- what stands in a list in which a place was set stood there before, or is what was set
pub get_set : (xs : List ℕ) (place value i y : ℕ) → slice_get (set xs place value) i ≡ Some y
    → (slice_get xs i ≡ Some y) ⊎ ((i ≡ place) × (value ≡ y))
get_set [] place value i y at = cc
get_set (first ∷ xs) zero value zero y at = inr (refl, cc)
get_set (first ∷ xs) zero value (suc i) y at = inl at
get_set (first ∷ xs) (suc place) value zero y at = inl at
get_set (first ∷ xs) (suc place) value (suc i) y at = by (get_set xs place value i y at) where
  by : (slice_get xs i ≡ Some y) ⊎ ((i ≡ place) × (value ≡ y)) → (slice_get xs i ≡ Some y) ⊎ ((suc i ≡ suc place) × (value ≡ y))
  by (inl before) = inl before
  by (inr now) = inr (ap suc now.0, now.1)

-- what stands at the place that was set is what was set
pub get_set_there : (xs : List ℕ) (place value y : ℕ) → slice_get (set xs place value) place ≡ Some y → value ≡ y
get_set_there [] place value y at = cc
get_set_there (first ∷ xs) zero value y at = cc
get_set_there (first ∷ xs) (suc place) value y at = get_set_there xs place value y at

-- what stands in a list in which another place was set
pub get_elsewhere : {X : Type 0} (xs : List X) (place k : ℕ) (x : X) → (place ≡ k → ⊥) → slice_get (set xs place x) k ≡ slice_get xs k
get_elsewhere [] place k x other = refl
get_elsewhere (first ∷ xs) zero zero x other = absurd (other refl)
get_elsewhere (first ∷ xs) zero (suc k) x other = refl
get_elsewhere (first ∷ xs) (suc place) zero x other = refl
get_elsewhere (first ∷ xs) (suc place) (suc k) x other = get_elsewhere xs place k x (λ same. other (ap suc same))

-- what stands at the place that was set
pub get_there : {X : Type 0} (xs : List X) (place : ℕ) (x : X) → place < length xs → slice_get (set xs place x) place ≡ Some x
get_there [] place x within = let low : place < 0 = within in absurd (omega arith)
get_there (first ∷ xs) zero x within = refl
get_there (first ∷ xs) (suc place) x within = get_there xs place x (omega arith)
