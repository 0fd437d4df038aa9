-- At most as many subscriptions are woken as are live.
use Rattle.std.proofs.Common.{◌≡◌, ◌==◌, ◌⊎◌, inl, inr, ℕ, zero, suc, ◌+◌, ◌<◌, ◌≤◌, Bool, true, false, not, ◌&&◌, List, [], ◌∷◌, length, refl, sym, ap, ◌∙◌, arith, Option}
use Rattle.std.specs.Prelude.{All, is_some, count_by}
use Rattle.std.proofs.lemmas.Bool.{cases_lt}
use Rattle.std.proofs.lemmas.List.Elements.{All-nil, All-cons, All-head, All-tail, All-weaker}
use Rattle.std.proofs.lemmas.Option.{slice_get_past}
use Rattle.lines_demo.specs.Prelude.{How}
use Rattle.lines_demo.specs.Script.State.{SubscriptionState, SessionState}
use Rattle.lines_demo.specs.Script.Waking.{is_live, owes_if_there, owes_turn}
use Rattle.lines_demo.specs.Script.Laws.{places_of, WakesWhoOwes}
use Rattle.lines_demo.proofs.Kept.LiveSubscriptions.{live_cons}
use Rattle.lines_demo.proofs.Woken.Lists.{bit, places_cons, same_test, other_test}

-- ---- sums over numbers

-- the sum of this many values, from this number on
total : (ℕ → ℕ) → ℕ → ℕ → ℕ
total value first zero = 0
total value first (suc count) = value first + total value (first + 1) count

-- of equal values, of two values, and of values that are not above others
total_same : (value other : ℕ → ℕ) → ((k : ℕ) → value k ≡ other k) → (first count : ℕ) → total value first count ≡ total other first count
unfolding total
total_same value other same first zero = refl
total_same value other same first (suc count) = ap (λ n. n + total value (first + 1) count) (same first) ∙ ap (λ n. other first + n) (total_same value other same (first + 1) count)

total_both : (value other : ℕ → ℕ) (first count : ℕ)
    → total (λ k. value k + other k) first count ≡ total value first count + total other first count
unfolding total
total_both value other first zero = refl
total_both value other first (suc count) = (let later = total_both value other (first + 1) count in omega (arith, later))

-- of values that are 0 everywhere
total_none : (value : ℕ → ℕ) (first count : ℕ) → ((k : ℕ) → first ≤ k → value k ≡ 0) → total value first count ≡ 0
unfolding total
total_none value first zero none = refl
total_none value first (suc count) none =
    (let here = none first (omega arith) in let later = total_none value (first + 1) count (λ k above. none k (omega arith)) in omega (arith, here, later))

-- of values that are 1 at one number and 0 elsewhere
total_one : (number place first count : ℕ) → first + place ≡ number → place < count → total (λ k. bit (number == k)) first count ≡ 1
unfolding total
total_one number place first zero is within = absurd (omega arith)
total_one number zero first (suc count) is within =
    let here : bit (number == first) ≡ 1 = ap bit (same_test number first (omega arith)) in
    let later = total_none (λ k. bit (number == k)) (first + 1) count (λ k above. ap bit (other_test number k (λ same. omega arith))) in
    omega (arith, here, later)
total_one number (suc place) first (suc count) is within =
    let here : bit (number == first) ≡ 0 = ap bit (other_test number first (λ same. omega arith)) in
    let later = total_one number place (first + 1) count (omega arith) (omega arith) in
    omega (arith, here, later)

-- the same values, counted from one number further
total_shifted : (value : ℕ → ℕ) (first count : ℕ) → total value (first + 1) count ≡ total (λ k. value (k + 1)) first count
unfolding total
total_shifted value first zero = refl
total_shifted value first (suc count) = ap (λ n. value (first + 1) + n) (total_shifted value (first + 1) count)

-- ---- places of numbers

-- a list of numbers below a bound is as long as all their places
length_total : (numbers : List ℕ) (count : ℕ) → All (λ number. number < count) numbers
    → length numbers ≡ total (λ k. places_of k numbers) 0 count
length_total [] count below = sym (total_none (λ k. 0) 0 count (λ k above. refl))
length_total (number ∷ numbers) count below =
    let first : number < count = All-head (λ n. n < count) number numbers below in
    let later = length_total numbers count (All-tail (λ n. n < count) number numbers below) in
    let one = total_one number number 0 count (omega arith) first in
    let both = total_same (λ k. places_of k (number ∷ numbers)) (λ k. bit (number == k) + places_of k numbers) (λ k. places_cons k number numbers) 0 count in
    let parts = total_both (λ k. bit (number == k)) (λ k. places_of k numbers) 0 count in
    omega (arith, later, one, both, parts)

-- each number of a list has a place there
has_place : (numbers : List ℕ) → All (λ number. 1 ≤ places_of number numbers) numbers
has_place [] = All-nil (λ number. 1 ≤ places_of number [])
has_place (number ∷ numbers) =
    All-cons (λ n. 1 ≤ places_of n (number ∷ numbers)) number numbers
    (let here = places_cons number number numbers ∙ ap (λ b. bit b + places_of number numbers) (same_test number number refl) in omega (arith, here))
    (All-weaker (λ n. 1 ≤ places_of n numbers) (λ n. 1 ≤ places_of n (number ∷ numbers)) (λ n some. (let more = places_cons n number numbers in omega (arith, more))) numbers (has_place numbers))

-- ---- the woken

-- who owes a turn is there
pub owes_within : (subscriptions : List SubscriptionState) (number : ℕ) → owes_turn subscriptions number ≡ true
    → number < length subscriptions
owes_within subscriptions number owed = by (cases_lt number (length subscriptions)) where
  by : (number < length subscriptions) ⊎ (length subscriptions ≤ number) → number < length subscriptions
  by (inl within) = within
  by (inr past) = let never : false ≡ true = sym (ap owes_if_there (slice_get_past subscriptions number past)) ∙ owed in cc

-- who owes a turn is live
owes_few : (subscriptions : List SubscriptionState)
    → total (λ k. bit (owes_turn subscriptions k)) 0 (length subscriptions) ≤ count_by is_live subscriptions
unfolding total
owes_few [] = omega arith
owes_few (s ∷ later) =
    let shifted = total_shifted (λ k. bit (owes_turn (s ∷ later) k)) 0 (length later) in
    let same = total_same (λ k. bit (owes_turn (s ∷ later) (k + 1))) (λ k. bit (owes_turn later k)) (λ k. at k) 0 (length later) in
    let few = owes_few later in
    let one = first s.desk.started s.desk.lane.how in
    let count = live_cons s later in
    omega (arith, shifted, same, few, one, count) where
      at : (k : ℕ) → bit (owes_turn (s ∷ later) (k + 1)) ≡ bit (owes_turn later k)
      at k = ap (λ n. bit (owes_turn (s ∷ later) n)) (next k) where
        next : (k : ℕ) → k + 1 ≡ suc k
        next k = omega arith

      first : (started : Bool) (how : Option How) → bit (started && not (is_some how)) ≤ bit (not (is_some how))
      first true how = omega arith
      first false how = omega arith

-- so at most as many are woken as are live
pub few_woken : (state : SessionState) → WakesWhoOwes state → length state.woken ≤ count_by is_live state.subscriptions
few_woken state wakes =
    let count : ℕ = length state.subscriptions in
    let below = All-weaker (λ n. 1 ≤ places_of n state.woken) (λ n. n < count) (λ n some. owes_within state.subscriptions n (owed n some)) state.woken (has_place state.woken) in
    let places = length_total state.woken count below in
    let same = total_same (λ k. places_of k state.woken) (λ k. bit (owes_turn state.subscriptions k)) wakes 0 count in
    let few = owes_few state.subscriptions in
    omega (arith, places, same, few) where
      owed : (n : ℕ) → 1 ≤ places_of n state.woken → owes_turn state.subscriptions n ≡ true
      owed n some = by (owes_turn state.subscriptions n) refl where
        by : (owes : Bool) → owes_turn state.subscriptions n ≡ owes → owes_turn state.subscriptions n ≡ true
        by true e = e
        by false e = (let none = wakes n ∙ ap bit e in absurd (omega (arith, none)))
