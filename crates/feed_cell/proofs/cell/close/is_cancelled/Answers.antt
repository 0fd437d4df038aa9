use Rattle.std.proofs.Common.{ℕ, ◌==◌, ap}
use Rattle.std.proofs.lemmas.Nat.Bits.{shr_and_one}
use Rattle.feed_cell.proofs.cell.close.is_cancelled.Goals as goal

pub returns : goal.returns
returns c = ap (λ (n : ℕ). n == 1) (shr_and_one c.args.control 2)
