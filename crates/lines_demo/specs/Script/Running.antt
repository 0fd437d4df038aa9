-- The turns that a `run` makes, and what they write.
use Rattle.std.specs.Prelude.{ℕ, zero, suc, ◌+◌, Bool, if◌then◌else◌, Option, Some, None, List, [], ◌∷◌, ◌++◌, length, sum_by, slice_get, slice_set}
use Rattle.feed_core.specs.PlainTurn.{plain_turn_of}
use Rattle.feed_core.specs.Turn.{is_again}
use Rattle.lines_demo.specs.Prelude.{Signal, Outlook, desk_after_turn, lag_of}
use Rattle.lines_demo.specs.Script.State.{SubscriptionState, SessionState, LineResult, empty_result, result_then}
use Rattle.lines_demo.specs.Script.Turns.{turn_lines, parts_of_turn, outlook_where}

-- the subscription after a turn that told these signals, and had this outlook
abbrev pub subscription_after_turn : List Signal → Outlook → SubscriptionState → SubscriptionState
subscription_after_turn told outlook subscription =
    record subscription { desk = desk_after_turn subscription.desk told outlook }

-- where a script stands after this turn of the subscription of this number: it is woken again, after all others, if it
-- owes another
abbrev pub state_after_turn : ℕ → SubscriptionState → List Signal → Outlook → SessionState
    → SessionState
state_after_turn number subscription told outlook state = record state {
  subscriptions =
      slice_set state.subscriptions number (subscription_after_turn told outlook subscription);
  woken = state.woken ++ (if is_again outlook then number ∷ [] else []);
}

-- a turn of the subscription of this number, if there is one
abbrev pub turn_result : ℕ → Option SubscriptionState → SessionState → List Bool → LineResult
turn_result number None state refusals = empty_result state refusals
turn_result number (Some subscription) state refusals =
    let plain = plain_turn_of subscription.desk.lane in
    let parts = parts_of_turn refusals plain.told in
    let outlook = outlook_where parts.missed plain.outlook in
    record {
      output = turn_lines subscription.name parts.told outlook;
      state = state_after_turn number subscription parts.told outlook state;
      refusals = parts.refusals;
    }

-- the turn of the first of the woken, if anybody is: it is taken off the list for it
abbrev pub first_turn_result : List ℕ → SessionState → List Bool → LineResult
first_turn_result [] state refusals = empty_result state refusals
first_turn_result (number ∷ rest) state refusals =
    turn_result number (slice_get state.subscriptions number)
    (record state { woken = rest }) refusals

-- turns as long as anybody is woken, and at most this many
abbrev pub turns_result : ℕ → SessionState → List Bool → LineResult
turns_result zero state refusals = empty_result state refusals
turns_result (suc most) state refusals =
    result_then (first_turn_result state.woken state refusals) (turns_result most)

-- how many items wait, in all buffers
abbrev pub waiting_items : List SubscriptionState → ℕ
waiting_items subscriptions = sum_by (λ subscription. lag_of subscription.desk.lane) subscriptions

-- how many turns there may be: each takes a number off the list of the woken for good, or gives items that wait
abbrev pub most_turns : SessionState → ℕ
most_turns state = length state.woken + waiting_items state.subscriptions

-- the turns of a `run`
abbrev pub run_turns : SessionState → List Bool → LineResult
run_turns state refusals = turns_result (most_turns state) state refusals
