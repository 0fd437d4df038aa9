-- The least power of two not below a number is the first of the sizes that is not.
use Rattle.std.proofs.Common.{◌≡◌, ◌⊎◌, ℕ, ◌+◌, ◌*◌, ◌/◌, ◌^◌, ◌<◌, ◌≤◌, min, max, true, false, cond, nat_le, refl, arith, inl, inr, sym, zero, suc, map, add-one}
use Rattle.std.specs.Prelude.{find, unwrap_or, Some}
use Rattle.std.specs.List.{range_with_len}
use Rattle.std.specs.Int.{IsPowerOfTwo}
use Rattle.std.proofs.Math.Pow.{pow_mono}
use Rattle.std.proofs.Math.Nat.{pow-suc}
use Rattle.std.proofs.lemmas.Bool.Decides.{nat_tests}
use Rattle.flow_rules.specs.Capacity.{capacity_of, IsCapacityOf}

-- of two powers of two the lower is at most half the other
half_le : (i j : ℕ) → i < j → 2 * 2 ^ i ≤ 2 ^ j
half_le i j below =
    let next : 2 ^ suc i ≤ 2 ^ j = pow_mono (omega arith) in
    omega (arith, pow-suc 2 i)

-- a power of two is above another, or at most that one
lower_or_half : (i j : ℕ) → (2 ^ j ≤ 2 ^ i) ⊎ (2 * 2 ^ i ≤ 2 ^ j)
lower_or_half i j = elim (nat_le j i) as (λ b. nat_le j i ≡ b → (2 ^ j ≤ 2 ^ i) ⊎ (2 * 2 ^ i ≤ 2 ^ j)) [
  | true ↦ λ e. inl (pow_mono (grind (arith, nat_tests)))
  | false ↦ λ e. inr (half_le i j (grind (arith, nat_tests)))
] refl

-- a power of two that is not below a number, and whose half is, is at most any other that is not below it
least : (m r p : ℕ) → IsPowerOfTwo r → r / 2 < max 1 m → 0 < m → IsPowerOfTwo p → m ≤ p → r ≤ p
least m r p power half some other covers =
    elim (lower_or_half other.0 power.0) [
      | inl low ↦ omega (arith, power.1, other.1)
      | inr high ↦ omega (arith, power.1, other.1)
    ]

-- the next power of two is the capacity
pub least_power : (n r : ℕ) → IsPowerOfTwo r → min n 65536 ≤ r → r / 2 < max 1 (min n 65536) → 0 < n → IsCapacityOf n r
least_power n r power covers half some = record {
  power = power;
  bounded = least (min n 65536) r 65536 power half (omega arith) (16, refl) (omega arith);
  covers = covers;
  least = λ p other high. least (min n 65536) r p power half (omega arith) other high;
}

-- from the k-th size on, the search finds the capacity, if it is not below that size
found_from : (count k n c : ℕ) → k + count ≡ 17 → IsCapacityOf n c → min (2 ^ k) 65536 ≤ c → unwrap_or (find (λ size. nat_le n size) (map (λ j. 2 ^ j) (range_with_len k count))) 65536 ≡ c
found_from zero k n c left is reached =
    let last : 2 ^ 17 ≤ 2 ^ k = pow_mono {i = 17} {j = k} (omega arith) in
    omega (arith, is.bounded)
found_from (suc count) k n c left is reached =
    let short : 2 ^ k ≤ 2 ^ 16 = pow_mono {i = k} {j = 16} (omega arith) in
    elim (nat_le n (2 ^ k)) as (λ b. nat_le n (2 ^ k) ≡ b → unwrap_or (cond b (Some (2 ^ k)) (find (λ size. nat_le n size) (map (λ j. 2 ^ j) (range_with_len (k + 1) count)))) 65536 ≡ c) [
      | true ↦ λ e.
          let covered : n ≤ 2 ^ k = grind (arith, nat_tests) in
          let low : c ≤ 2 ^ k = is.least (2 ^ k) (k, refl) (omega arith) in
          omega arith
      | false ↦ λ e.
          let above : 2 ^ k < n = grind (arith, nat_tests) in
          let next : 2 ^ (k + 1) ≡ 2 ^ k * 2 = rw add-one (pow-suc 2 k) in
          found_from count (k + 1) n c (omega arith) is (elim (lower_or_half k is.power.0) [
            | inl low ↦ omega (arith, is.covers, is.power.1)
            | inr high ↦ omega (arith, is.power.1)
          ])
    ] refl

-- the definition by the first size and the definition by the least power of two agree
pub same_capacity : (n c : ℕ) → IsCapacityOf n c → 0 < n → c ≡ capacity_of n
unfolding capacity_of
same_capacity n c is some = sym (found_from 17 0 n c refl is (omega (arith, is.covers)))
