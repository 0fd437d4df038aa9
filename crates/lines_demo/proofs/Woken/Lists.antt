-- Whom a call has started joins the woken: each subscription that owes a turn stays woken once, and nobody else is.
use Rattle.std.proofs.Common.{◌≡◌, ◌==◌, ℕ, zero, suc, ◌+◌, ◌<◌, ◌≤◌, Bool, true, false, not, ◌&&◌, if◌then◌else◌, List, [], ◌∷◌, ◌++◌, length, map, refl, sym, ap, subst, ◌∙◌, arith, Option, Some, None, ◌⊎◌, inl, inr}
use Rattle.std.specs.Prelude.{filter, slice_get, option_map}
use Rattle.std.specs.List.{range_with_len}
use Rattle.std.proofs.lemmas.Bool.{cases_lt}
use Rattle.std.proofs.lemmas.Bool.Decides.{nat_tests}
use Rattle.std.proofs.lemmas.List.Sums.{sum_by-append, sum_by-cons}
use Rattle.std.proofs.lemmas.Option.{slice_get_past, slice_get-map}
use Rattle.lines_demo.specs.Prelude.{owes}
use Rattle.lines_demo.specs.Script.State.{SubscriptionState, SessionState}
use Rattle.lines_demo.specs.Script.Waking.{owes_if_there, owes_turn, newly_woken, with_subscriptions}
use Rattle.lines_demo.specs.Script.Laws.{places_of, WakesWhoOwes}

-- 1 if it holds, and else 0
abbrev pub bit : Bool → ℕ
bit b = if b then 1 else 0

-- ---- places of a number

pub places_append : (number : ℕ) (xs ys : List ℕ) → places_of number (xs ++ ys) ≡ places_of number xs + places_of number ys
places_append number xs ys = sum_by-append (λ other. if other == number then 1 else 0) xs ys

pub places_cons : (number other : ℕ) (xs : List ℕ) → places_of number (other ∷ xs) ≡ bit (other == number) + places_of number xs
places_cons number other xs = sum_by-cons (λ n. if n == number then 1 else 0) other xs

-- a number stands there
pub same_test : (n m : ℕ) → n ≡ m → (n == m) ≡ true
same_test n m same = grind (arith, nat_tests)

pub other_test : (n m : ℕ) → (n ≡ m → ⊥) → (n == m) ≡ false
other_test n m other = grind (arith, nat_tests)

-- the numbers of a range that pass, when one more is put before it
abbrev passing : (ℕ → Bool) → ℕ → ℕ → List ℕ
passing test first count = filter test (range_with_len first count)

-- a number other than the first of the range stands as often without it
places_later : (test : ℕ → Bool) (first count number : ℕ) → (first ≡ number → ⊥)
    → places_of number (passing test first (suc count)) ≡ places_of number (passing test (first + 1) count)
places_later test first count number other = by (test first) where
  by : (passes : Bool) → places_of number (if passes then first ∷ passing test (first + 1) count else passing test (first + 1) count) ≡ places_of number (passing test (first + 1) count)
  by true = places_cons number first (passing test (first + 1) count) ∙ ap (λ b. bit b + places_of number (passing test (first + 1) count)) (other_test first number other) ∙ (omega arith)
  by false = refl

-- no number below a range stands in it
places_below : (test : ℕ → Bool) (first count number : ℕ) → number < first → places_of number (passing test first count) ≡ 0
places_below test first zero number below = refl
places_below test first (suc count) number below =
    places_later test first count number (λ same. omega arith) ∙ places_below test (first + 1) count number (omega arith)

-- nor one beyond it
places_beyond : (test : ℕ → Bool) (first count number : ℕ) → first + count ≤ number → places_of number (passing test first count) ≡ 0
places_beyond test first zero number beyond = refl
places_beyond test first (suc count) number beyond =
    places_later test first count number (λ same. omega arith) ∙ places_beyond test (first + 1) count number (omega arith)

-- the first of a range stands there once if it passes, and else not at all
places_first : (test : ℕ → Bool) (first count number : ℕ) → first ≡ number
    → places_of number (passing test first (suc count)) ≡ bit (test number)
places_first test first count number is = subst (λ n. places_of n (passing test first (suc count)) ≡ bit (test n)) is (by (test first)) where
  none : places_of first (passing test (first + 1) count) ≡ 0
  none = places_below test (first + 1) count first (omega arith)

  by : (passes : Bool) → places_of first (if passes then first ∷ passing test (first + 1) count else passing test (first + 1) count) ≡ bit passes
  by true = places_cons first first (passing test (first + 1) count) ∙ ap (λ b. bit b + places_of first (passing test (first + 1) count)) (same_test first first refl) ∙ ap (λ n. 1 + n) none
  by false = none

-- so does each number of a range
places_within : (test : ℕ → Bool) (first count place number : ℕ) → first + place ≡ number → place < count
    → places_of number (passing test first count) ≡ bit (test number)
places_within test first zero place number is within = absurd (omega arith)
places_within test first (suc count) zero number is within = places_first test first count number (omega arith)
places_within test first (suc count) (suc place) number is within =
    places_later test first count number (λ same. omega arith) ∙ places_within test (first + 1) count place number (omega arith) (omega arith)

-- ---- the newly woken

-- nobody owes a turn who isn't there
owes_past : (subscriptions : List SubscriptionState) (number : ℕ) → length subscriptions ≤ number → owes_turn subscriptions number ≡ false
owes_past subscriptions number past = ap owes_if_there (slice_get_past subscriptions number past)

-- who owes a turn now and owed none before is newly woken, once, and nobody else is
places_woken : (before now : List SubscriptionState) (number : ℕ)
    → places_of number (newly_woken before now) ≡ bit (owes_turn now number && not (owes_turn before number))
places_woken before now number = by (cases_lt number (length now)) where
  by : (number < length now) ⊎ (length now ≤ number)
      → places_of number (newly_woken before now) ≡ bit (owes_turn now number && not (owes_turn before number))
  by (inl within) = places_within (λ n. owes_turn now n && not (owes_turn before n)) 0 (length now) number number (omega arith) within
  by (inr past) =
      places_beyond (λ n. owes_turn now n && not (owes_turn before n)) 0 (length now) number (omega arith)
      ∙ ap (λ owed. bit (owed && not (owes_turn before number))) (sym (owes_past now number past))

-- whoever owed a turn before and whoever is newly woken owe one now, if nobody's turn is forgotten
joined : (before now : Bool) → (before ≡ true → now ≡ true) → bit before + bit (now && not before) ≡ bit now
joined true true kept = refl
joined true false kept = let never : false ≡ true = kept refl in cc
joined false true kept = refl
joined false false kept = refl

-- a call by which nobody's turn is forgotten keeps it that just those who owe a turn are woken, once
pub wakes_with : (state : SessionState) (now : List SubscriptionState) → WakesWhoOwes state
    → ((number : ℕ) → owes_turn state.subscriptions number ≡ true → owes_turn now number ≡ true)
    → WakesWhoOwes (with_subscriptions now state)
wakes_with state now wakes kept = λ number.
    places_append number state.woken (newly_woken state.subscriptions now)
    ∙ ap (λ n. n + places_of number (newly_woken state.subscriptions now)) (wakes number)
    ∙ ap (λ n. bit (owes_turn state.subscriptions number) + n) (places_woken state.subscriptions now number)
    ∙ joined (owes_turn state.subscriptions number) (owes_turn now number) (kept number)

-- ---- whose turn is kept

-- a change of each subscription keeps the turns that it keeps
pub owes_map : (change : SubscriptionState → SubscriptionState)
    → ((s : SubscriptionState) → owes s.desk ≡ true → owes (change s).desk ≡ true)
    → (subscriptions : List SubscriptionState) (number : ℕ) → owes_turn subscriptions number ≡ true → owes_turn (map change subscriptions) number ≡ true
owes_map change keeps subscriptions number owed = ap owes_if_there (slice_get-map change subscriptions number) ∙ by (slice_get subscriptions number) owed where
  by : (there : Option SubscriptionState) → owes_if_there there ≡ true → owes_if_there (option_map change there) ≡ true
  by None owed = cc
  by (Some s) owed = keeps s owed

-- one more subscription at the end keeps all turns
pub owes_append : (subscriptions more : List SubscriptionState) (number : ℕ) → owes_turn subscriptions number ≡ true
    → owes_turn (subscriptions ++ more) number ≡ true
owes_append [] more number owed = cc
owes_append (s ∷ subscriptions) more zero owed = owed
owes_append (s ∷ subscriptions) more (suc number) owed = owes_append subscriptions more number owed
