-- A `run` goes on until nobody is woken.
use Rattle.std.proofs.Common.{◌≡◌, ℕ, zero, suc, ◌+◌, ◌<◌, ◌≤◌, Bool, true, false, if◌then◌else◌, List, [], ◌∷◌, ◌++◌, length, get_or, set, refl, sym, ap, subst, ◌∙◌, length-append, arith, Option, Some, None}
use Rattle.std.specs.Prelude.{slice_get}
use Rattle.std.proofs.lemmas.List.{nil_from_length}
use Rattle.std.proofs.lemmas.List.Sums.{sum_by-set}
use Rattle.std.proofs.lemmas.Option.{slice_get_within, get_or_from_slice_get}
use Rattle.feed_core.specs.Turn.{is_again, lane_after_turn}
use Rattle.feed_core.proofs.Turns.Resting.{fewer_after_again}
use Rattle.lines_demo.specs.Prelude.{Ending, ErrorOrder, Outlook, lag_of}
use Rattle.lines_demo.specs.Script.Kept.{IsKept, IsLawful, IsReachable}
use Rattle.lines_demo.specs.Script.State.{SubscriptionState, SessionState}
use Rattle.lines_demo.specs.Script.Running.{subscription_after_turn, turn_result, first_turn_result, turns_result, waiting_items, most_turns, run_turns}
use Rattle.lines_demo.proofs.Kept.Turns.{told_in, outlook_in, turn_meets, told_whole, first_turn_lawful}
use Rattle.lines_demo.proofs.Woken.Lists.{bit}

-- fewer items wait after a turn that is to be gone on with, and never more
fewer_wait : (texts : ℕ → List ℕ) (next : ℕ) (order : ErrorOrder) (closed : Option Ending) (s : SubscriptionState) (refusals : List Bool)
    → IsKept texts next order closed s
    → bit (is_again (outlook_in s.desk.lane refusals)) + lag_of (lane_after_turn s.desk.lane (told_in s.desk.lane refusals) (outlook_in s.desk.lane refusals)) ≤ lag_of s.desk.lane
fewer_wait texts next order closed s refusals kept = by (outlook_in s.desk.lane refusals) refl where
  by : (outlook : Outlook) → outlook_in s.desk.lane refusals ≡ outlook
      → bit (is_again outlook) + lag_of (lane_after_turn s.desk.lane (told_in s.desk.lane refusals) outlook) ≤ lag_of s.desk.lane
  by Outlook.Again e =
      let meets = turn_meets s.desk.lane refusals in
      let whole = told_whole s.desk.lane (told_in s.desk.lane refusals) meets.missed (outlook_in s.desk.lane refusals) meets.whole meets.seen e in
      let fewer : lag_of (lane_after_turn s.desk.lane (told_in s.desk.lane refusals) Outlook.Again) < lag_of s.desk.lane =
      subst (λ told. lag_of (lane_after_turn s.desk.lane told Outlook.Again) < lag_of s.desk.lane) whole.0 (fewer_after_again s.desk.lane kept.sound.sound whole.1) in
      omega arith
  by Outlook.Resting e = omega arith
  by (Outlook.Ended how) e = omega arith

-- a number that goes to the back of the list, or none
length_again : (number : ℕ) (again : Bool) → length (if again then number ∷ [] else []) ≡ bit again
length_again number true = refl
length_again number false = refl

-- after a turn fewer turns are left
pub fewer_turns : (texts : ℕ → List ℕ) (number : ℕ) (rest : List ℕ) (state : SessionState) (refusals : List Bool) → IsLawful texts state
    → state.woken ≡ number ∷ rest
    → most_turns (turn_result number (slice_get state.subscriptions number) (record state { woken = rest }) refusals).state < most_turns state
fewer_turns texts number rest state refusals lawful woken = by (slice_get state.subscriptions number) refl where
  one_off : length state.woken ≡ length rest + 1
  one_off = ap length woken ∙ (omega arith)

  by : (there : Option SubscriptionState) → slice_get state.subscriptions number ≡ there
      → most_turns (turn_result number there (record state { woken = rest }) refusals).state < most_turns state
  by None is = omega (arith, one_off)
  by (Some s) is =
      let within = slice_get_within state.subscriptions number s is in
      let here : get_or state.subscriptions number s ≡ s = get_or_from_slice_get state.subscriptions number s s is in
      let kept : IsKept texts state.serial state.beginning.order state.closing s = subst (IsKept texts state.serial state.beginning.order state.closing) here (lawful.subscriptions number s within) in
      let told = told_in s.desk.lane refusals in
      let outlook = outlook_in s.desk.lane refusals in
      let fewer = fewer_wait texts state.serial state.beginning.order state.closing s refusals kept in
      let lag : SubscriptionState → ℕ = λ t. lag_of t.desk.lane in
      let sums : waiting_items (set state.subscriptions number (subscription_after_turn told outlook s)) + lag_of s.desk.lane ≡ waiting_items state.subscriptions + lag_of (lane_after_turn s.desk.lane told outlook) =
      ap (λ t. waiting_items (set state.subscriptions number (subscription_after_turn told outlook s)) + lag t) (sym here) ∙ sum_by-set lag state.subscriptions number (subscription_after_turn told outlook s) s within in
      let long : length (rest ++ (if is_again outlook then number ∷ [] else [])) ≡ length rest + bit (is_again outlook) =
      length-append rest (if is_again outlook then number ∷ [] else []) ∙ ap (λ n. length rest + n) (length_again number (is_again outlook)) in
      omega (arith, one_off, sums, long, fewer)

-- if nobody is woken, no turn is made
nobody_turns : (most : ℕ) (state : SessionState) (refusals : List Bool) → state.woken ≡ []
    → (turns_result most state refusals).state.woken ≡ []
nobody_turns zero state refusals none = none
nobody_turns (suc most) state refusals none =
    let first = first_turn_result state.woken state refusals in
    nobody_turns most first.state first.refusals (ap (λ woken. (first_turn_result woken state refusals).state.woken) none ∙ none)

-- as many turns as there may be leave nobody woken
turns_end : (texts : ℕ → List ℕ) (most : ℕ) (state : SessionState) (refusals : List Bool) → IsLawful texts state → most_turns state ≤ most
    → (turns_result most state refusals).state.woken ≡ []
turns_end texts zero state refusals lawful few = nil_from_length state.woken (omega arith)
turns_end texts (suc most) state refusals lawful few =
    by state.woken refl (turns_end texts most (first_turn_result state.woken state refusals).state (first_turn_result state.woken state refusals).refusals (first_turn_lawful texts state refusals lawful)) where
      by : (woken : List ℕ) → state.woken ≡ woken
          → (most_turns (first_turn_result state.woken state refusals).state ≤ most → (turns_result (suc most) state refusals).state.woken ≡ [])
          → (turns_result (suc most) state refusals).state.woken ≡ []
      by [] e later = nobody_turns (suc most) state refusals e
      by (number ∷ rest) e later =
          let fewer : most_turns (first_turn_result state.woken state refusals).state < most_turns state =
          subst (λ woken. most_turns (first_turn_result woken state refusals).state < most_turns state) (sym e) (fewer_turns texts number rest state refusals lawful e) in
          later (omega arith)

-- a `run` leaves nobody woken
pub run_ends : (state : SessionState) (refusals : List Bool) → IsReachable state → (run_turns state refusals).state.woken ≡ []
run_ends state refusals is = turns_end is.0 (most_turns state) state refusals is.1 (omega arith)
