-- Numbers of few digits fit 64 bits.
use Rattle.std.proofs.Common.{◌≡◌, ℕ, zero, suc, ◌+◌, ◌*◌, ◌^◌, ◌<◌, ◌≤◌, ◌-◌, add-one, arith}
use Rattle.std.proofs.Math.Nat.{pow-suc}

-- a power of ten is at most a later one
ten_le : (i more : ℕ) → i + more ≡ 18 → 10 ^ i ≤ 10 ^ 18
ten_le i zero e =
    let last : i ≡ 18 = omega arith in
    rw last (omega arith)
ten_le i (suc more) e =
    let next : 10 ^ suc i ≡ 10 ^ i * 10 = pow-suc 10 i in
    let rest : 10 ^ suc i ≤ 10 ^ 18 = ten_le (suc i) more (omega arith) in
    omega arith

-- a number of at most 18 digits is below 10^18
pub below_largest : (i value : ℕ) → i < 19 → value < 10 ^ i → value < 1000000000000000000
below_largest i value few below =
    let bound : 10 ^ i ≤ 10 ^ 18 = ten_le i (18 - i) (omega arith) in
    omega arith

-- one more digit
pub more_digits : (i value digit : ℕ) → value < 10 ^ i → digit ≤ 9 → 10 * value + digit < 10 ^ (i + 1)
more_digits i value digit below small =
    let next : 10 ^ suc i ≡ 10 ^ i * 10 = pow-suc 10 i in
    rw add-one (omega arith)
