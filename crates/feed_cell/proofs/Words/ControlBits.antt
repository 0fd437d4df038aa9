-- Causes by the bits of the control word.
use Rattle.std.proofs.Common.{◌≡◌, ℕ, ◌/◌, ◌^◌, ◌==◌, Bool, true, false, bit_and, ap, ◌∙◌}
use Rattle.std.specs.Int.{bit_at}
use Rattle.std.proofs.lemmas.Nat.Bits.{shr_and_one}
use Rattle.feed_cell.specs.Control.{number}

-- a bit that was tested
pub flagged : (word bit : ℕ) (flag : Bool) → bit_at word bit ≡ number flag → (bit_and (word / 2 ^ bit) 1 == 1) ≡ flag
flagged word bit true is = ap (λ (n : ℕ). n == 1) (shr_and_one word bit ∙ is)
flagged word bit false is = ap (λ (n : ℕ). n == 1) (shr_and_one word bit ∙ is)
