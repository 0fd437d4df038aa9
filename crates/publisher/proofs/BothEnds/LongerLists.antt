-- A list with one more at its end.
use Rattle.std.proofs.Common.{◌≡◌, ℕ, zero, suc, Some, List, [], ◌∷◌, ◌++◌, length, refl}
use Rattle.std.specs.Prelude.{slice_get}

-- what stands in a list stands there still
pub get_still : {X : Type 0} (xs : List X) (x : X) (k : ℕ) (y : X) → slice_get xs k ≡ Some y → slice_get (xs ++ x ∷ []) k ≡ Some y
get_still [] x k y at = cc
get_still (first ∷ xs) x zero y at = at
get_still (first ∷ xs) x (suc k) y at = get_still xs x k y at

-- and the new one at its end
pub get_last : {X : Type 0} (xs : List X) (x : X) → slice_get (xs ++ x ∷ []) (length xs) ≡ Some x
get_last [] x = refl
get_last (first ∷ xs) x = get_last xs x
