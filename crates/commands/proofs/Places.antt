-- The place of a byte in a list.
use Rattle.std.proofs.Common.{◌≡◌, ◌≤◌, Bool, true, false, cond, not, nat_lt, List, length, refl, arith}
use Rattle.std.specs.Prelude.{position, unwrap_or, Some, None}
use Rattle.std.specs.List.{position_or_len}
use Rattle.std.proofs.lemmas.Bool.Decides.{nat_tests}
use Rattle.std.proofs.lemmas.List.Sums.{prefix_len-le-length}

-- where no element passes, the place is the length
pub unwrap_or_position : {X : Type 0} (p : X → Bool) (xs : List X) → unwrap_or (position p xs) (length xs) ≡ position_or_len p xs
unwrap_or_position p xs =
    let place = position_or_len p xs in
    let within : place ≤ length xs = prefix_len-le-length (λ x. not (p x)) xs in
    elim (nat_lt place (length xs)) as (λ b. nat_lt place (length xs) ≡ b → unwrap_or (cond b (Some place) None) (length xs) ≡ place) [
      | true ↦ λ e. refl
      | false ↦ λ e. grind (arith, nat_tests)
    ] refl
