-- A small number, read as a signed one.
use Rattle.std.proofs.Common.{◌≡◌, ◌<◌, ◌^◌, ℕ, rules, to_z, w64}
use Rattle.std.specs.Prelude.{pos}

-- it is itself
pub small_signed : (n : ℕ) → n < 2 ^ 63 → to_z w64 n ≡ pos n
small_signed n few = search rules
