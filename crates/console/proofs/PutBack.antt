-- What was taken out of a list is put back.
use Rattle.std.proofs.Common.{◌≡◌, ℕ, zero, suc, ◌<◌, List, [], ◌∷◌, length, get_or, ap, arith}
use Rattle.std.specs.Prelude.{insert, remove}

-- at its own place it leaves the list as it was
pub put_back : {X : Type 0} (xs : List X) (i : ℕ) (x : X) → i < length xs → x ≡ get_or xs i x → insert (remove xs i) i x ≡ xs
put_back [] i x within is = absurd (omega arith)
put_back (y ∷ ys) zero x within is = ap (λ z. z ∷ ys) is
put_back (y ∷ ys) (suc i) x within is = ap (λ zs. y ∷ zs) (put_back ys i x (omega arith) is)
