-- The enforced capacity of a buffer (`SubmissionPublisher(Executor, int)`, Java SE 17: it may be rounded up to a power
-- of two and bounded).
use Rattle.std.specs.Prelude.{ℕ, ◌^◌, ◌≤◌, min, List, map, nat_le, find, unwrap_or}
use Rattle.std.specs.List.{range_with_len}
use Rattle.std.specs.Int.{IsPowerOfTwo}

-- the powers of two from 1 to 65,536
abbrev pub sizes : List ℕ
sizes = map (λ k. 2 ^ k) (range_with_len 0 17)

-- the least of the sizes that is not below n, or the largest size
unfoldable pub capacity_of : ℕ → ℕ
capacity_of n = unwrap_or (find (λ size. nat_le n size) sizes) 65536

-- c is the least power of two that is not below n, with n taken as 65,536 at most
pub record IsCapacityOf (n c : ℕ) : Type 0 where
  pub power : IsPowerOfTwo c
  pub bounded : c ≤ 65536
  pub covers : min n 65536 ≤ c
  pub least : (p : ℕ) → IsPowerOfTwo p → min n 65536 ≤ p → c ≤ p
