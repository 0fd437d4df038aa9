-- The newly woken, as calls find them: the places of those whose task was started, one after the other.
use Rattle.std.proofs.Common.{◌≡◌, ℕ, zero, suc, ◌+◌, Bool, true, false, not, ◌&&◌, if◌then◌else◌, List, [], ◌∷◌, ◌++◌, length, set, refl, sym, ap, ◌∙◌, arith, Some}
use Rattle.std.specs.Prelude.{filter, slice_get}
use Rattle.std.specs.List.{range_with_len}
use Rattle.lines_demo.specs.Prelude.{owes}
use Rattle.lines_demo.specs.Script.State.{SubscriptionState}
use Rattle.lines_demo.specs.Script.Waking.{owes_turn, newly_woken}

-- the numbers, from this one on, of the places where it holds
abbrev pub numbers_where : ℕ → List Bool → List ℕ
numbers_where first [] = []
numbers_where first (holds ∷ others) = if holds then first ∷ numbers_where (first + 1) others else numbers_where (first + 1) others

-- whether each subscription owes a turn now and owed none before
abbrev pub starts_of : List SubscriptionState → List SubscriptionState → List Bool
starts_of before [] = []
starts_of [] (now ∷ later) = owes now.desk ∷ starts_of [] later
starts_of (before ∷ others) (now ∷ later) = (owes now.desk && not (owes before.desk)) ∷ starts_of others later

-- the numbers of a range that pass a test are those of the places where it holds
passing_numbers : (test : ℕ → Bool) (first : ℕ) (bits : List Bool)
    → ((place : ℕ) (bit : Bool) → slice_get bits place ≡ Some bit → test (first + place) ≡ bit)
    → filter test (range_with_len first (length bits)) ≡ numbers_where first bits
passing_numbers test first [] same = refl
passing_numbers test first (bit ∷ bits) same =
    let here : test first ≡ bit = ap test (omega arith) ∙ same 0 bit refl in
    let later = passing_numbers test (first + 1) bits (λ place b at. ap test (omega arith) ∙ same (suc place) b at) in
    ap (λ b. if b then first ∷ filter test (range_with_len (first + 1) (length bits)) else filter test (range_with_len (first + 1) (length bits))) here
    ∙ ap (λ rest. if bit then first ∷ rest else rest) later

-- as long as the subscriptions
length_starts : (before now : List SubscriptionState) → length (starts_of before now) ≡ length now
length_starts before [] = refl
length_starts [] (now ∷ later) = ap suc (length_starts [] later)
length_starts (_ ∷ others) (now ∷ later) = ap suc (length_starts others later)

-- what they say of a place
starts_at : (before now : List SubscriptionState) (place : ℕ) (bit : Bool) → slice_get (starts_of before now) place ≡ Some bit
    → (owes_turn now place && not (owes_turn before place)) ≡ bit
starts_at before [] place bit at = cc
starts_at [] (now ∷ later) zero bit at = both (owes now.desk) (same_value at) where
  both : (owed : Bool) → owed ≡ bit → (owed && not false) ≡ bit
  both true e = e
  both false e = e

  same_value : {a b : Bool} → Some a ≡ Some b → a ≡ b
  same_value e = cc
starts_at [] (now ∷ later) (suc place) bit at = starts_at [] later place bit at
starts_at (before ∷ others) (now ∷ later) zero bit at = cc
starts_at (before ∷ others) (now ∷ later) (suc place) bit at = starts_at others later place bit at

-- the newly woken are the numbers of those
pub newly_woken_are : (before now : List SubscriptionState) → newly_woken before now ≡ numbers_where 0 (starts_of before now)
newly_woken_are before now =
    let test : ℕ → Bool = λ number. owes_turn now number && not (owes_turn before number) in
    ap (λ many. filter test (range_with_len 0 many)) (sym (length_starts before now))
    ∙ passing_numbers test 0 (starts_of before now) (λ place bit at. ap test (omega arith) ∙ starts_at before now place bit at)

-- who stays as it is isn't woken
started_none : (first : ℕ) (subscriptions : List SubscriptionState) → numbers_where first (starts_of subscriptions subscriptions) ≡ []
started_none first [] = refl
started_none first (s ∷ later) = by (owes s.desk) (started_none (first + 1) later) where
  by : (owed : Bool) → numbers_where (first + 1) (starts_of later later) ≡ []
      → numbers_where first ((owed && not owed) ∷ starts_of later later) ≡ []
  by true none = none
  by false none = none

-- a new subscription that owes its first turn is woken, and nobody else
started_last : (first : ℕ) (subscriptions : List SubscriptionState) (new : SubscriptionState) → owes new.desk ≡ true
    → numbers_where first (starts_of subscriptions (subscriptions ++ new ∷ [])) ≡ (first + length subscriptions) ∷ []
started_last first [] new owed = ap (λ b. numbers_where first (b ∷ [])) owed ∙ ap (λ n. n ∷ []) (omega arith)
started_last first (s ∷ later) new owed =
    by (owes s.desk) (started_last (first + 1) later new owed ∙ ap (λ n. n ∷ []) (omega arith)) where
      by : (owes_one : Bool) → numbers_where (first + 1) (starts_of later (later ++ new ∷ [])) ≡ (first + suc (length later)) ∷ []
          → numbers_where first ((owes_one && not owes_one) ∷ starts_of later (later ++ new ∷ [])) ≡ (first + suc (length later)) ∷ []
      by true rest = rest
      by false rest = rest

pub newly_woken_new : (subscriptions : List SubscriptionState) (new : SubscriptionState) → owes new.desk ≡ true
    → newly_woken subscriptions (subscriptions ++ new ∷ []) ≡ length subscriptions ∷ []
newly_woken_new subscriptions new owed =
    newly_woken_are subscriptions (subscriptions ++ new ∷ []) ∙ started_last 0 subscriptions new owed ∙ ap (λ n. n ∷ []) (omega arith)

-- a call of one subscription wakes that one, if it starts its task
started_one : (first place : ℕ) (subscriptions : List SubscriptionState) (s after : SubscriptionState)
    → slice_get subscriptions place ≡ Some s
    → numbers_where first (starts_of subscriptions (set subscriptions place after)) ≡ (if owes after.desk && not (owes s.desk) then (first + place) ∷ [] else [])
started_one first place [] s after stands = cc
started_one first zero (other ∷ later) s after stands = by (owes after.desk && not (owes other.desk)) (started_none (first + 1) later) ∙ same where
  is : other ≡ s
  is = value stands where
    value : {a b : SubscriptionState} → Some a ≡ Some b → a ≡ b
    value e = cc

  same : (if owes after.desk && not (owes other.desk) then (first + 0) ∷ [] else []) ≡ (if owes after.desk && not (owes s.desk) then (first + 0) ∷ [] else [])
  same = ap (λ (t : SubscriptionState). if owes after.desk && not (owes t.desk) then (first + 0) ∷ [] else []) is

  by : (started : Bool) → numbers_where (first + 1) (starts_of later later) ≡ []
      → numbers_where first (started ∷ starts_of later later) ≡ (if started then (first + 0) ∷ [] else [])
  by true none = ap (λ rest. first ∷ rest) none ∙ ap (λ n. n ∷ []) (omega arith)
  by false none = none
started_one first (suc place) (other ∷ later) s after stands = by (owes other.desk) (started_one (first + 1) place later s after stands) where
  moved : (started : Bool) → (if started then (first + 1 + place) ∷ [] else []) ≡ (if started then (first + suc place) ∷ [] else [])
  moved true = ap (λ n. n ∷ []) (omega arith)
  moved false = refl

  by : (owed : Bool) → numbers_where (first + 1) (starts_of later (set later place after)) ≡ (if owes after.desk && not (owes s.desk) then (first + 1 + place) ∷ [] else [])
      → numbers_where first ((owed && not owed) ∷ starts_of later (set later place after)) ≡ (if owes after.desk && not (owes s.desk) then (first + suc place) ∷ [] else [])
  by true rest = rest ∙ moved (owes after.desk && not (owes s.desk))
  by false rest = rest ∙ moved (owes after.desk && not (owes s.desk))

pub newly_woken_one : (subscriptions : List SubscriptionState) (place : ℕ) (s after : SubscriptionState)
    → slice_get subscriptions place ≡ Some s
    → newly_woken subscriptions (set subscriptions place after) ≡ (if owes after.desk && not (owes s.desk) then place ∷ [] else [])
newly_woken_one subscriptions place s after stands =
    newly_woken_are subscriptions (set subscriptions place after) ∙ started_one 0 place subscriptions s after stands
    ∙ ap (λ n. if owes after.desk && not (owes s.desk) then n ∷ [] else []) (omega arith)
