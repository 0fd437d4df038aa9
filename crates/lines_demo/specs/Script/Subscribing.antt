-- `sub`: what it changes, and what it is answered.
use Rattle.std.specs.Prelude.{ℕ, ◌-◌, ◌==◌, Bool, true, false, ◌&&◌, if◌then◌else◌, nat_le, Option, Some, None, List, [], ◌∷◌, ◌++◌, length, map, count_by}
use Rattle.std.specs.List.{list_any}
use Rattle.feed_core.specs.Desk.{desk_after_duplicate}
use Rattle.feed_core.specs.LaneCalls.{empty_lane_in}
use Rattle.lines_demo.specs.Prelude.{Ending, ErrorOrder, Refusal, DeskState, desk_after_end, desk_after_demand}
use Rattle.commands.specs.Word.{is_word}
use Rattle.lines_demo.specs.Script.State.{SubscriptionState, SessionState, CommandResult, refused_result, result_unless_no_memory}
use Rattle.lines_demo.specs.Script.Waking.{is_live, with_subscriptions}
use Rattle.commands.specs.declared.reply.Reply.TheVariants.{Name, Refused}
pub use Rattle.publisher_hub.specs.declared.hub.TheConstants.{MOST_ENTRIES, USUAL_LIVE}

-- what the publisher has of a new subscription, which is told a closing error in this order: its first turn is owed,
-- and its subscriber is steady
abbrev pub desk_at_start : ErrorOrder → ℕ → DeskState
desk_at_start order capacity = record {
  lane = empty_lane_in order;
  capacity = capacity;
  started = true;
  is_steady = true;
  looks = 0;
  requested = 0;
  asked_badly = false;
  is_cancelled = false;
  replied = [];
}

-- what the publisher has of a subscription before it requests anything: it is closed at once if the publisher was
abbrev pub desk_at_subscribing : Option Ending → ErrorOrder → ℕ → DeskState
desk_at_subscribing None order capacity = desk_at_start order capacity
desk_at_subscribing (Some ending) order capacity =
    desk_after_end ending (desk_at_start order capacity)

-- a new subscription of this name, which requests this many items
abbrev pub new_subscription : SessionState → List ℕ → ℕ → SubscriptionState
new_subscription state name number = record {
  name = name;
  since = state.serial;
  dropped = 0;
  desk = desk_after_demand number
      (desk_at_subscribing state.closing state.beginning.order state.capacity);
}

-- where a script stands after the next subscriber of its stock has subscribed
abbrev pub state_after_subscribing : List ℕ → ℕ → SessionState → SessionState
state_after_subscribing name number state =
    with_subscriptions (state.subscriptions ++ new_subscription state name number ∷ [])
    (record state { stock = state.stock - 1 })

-- whether it is live and has this name
abbrev pub is_live_as : List ℕ → SubscriptionState → Bool
is_live_as name subscription = is_live subscription && is_word subscription.name name

-- whether a live subscription has this name
abbrev pub is_subscribed : List ℕ → List SubscriptionState → Bool
is_subscribed name subscriptions = list_any (is_live_as name) subscriptions

-- a subscription after a second one of this name was refused: the live one of that name gets its error
abbrev pub subscription_after_duplicate : List ℕ → SubscriptionState → SubscriptionState
subscription_after_duplicate name subscription =
    if is_live_as name subscription
    then record subscription { desk = desk_after_duplicate subscription.desk } else subscription

-- where a script stands after a second subscription of this name was refused
abbrev pub state_after_duplicate : List ℕ → SessionState → SessionState
state_after_duplicate name state =
    with_subscriptions (map (subscription_after_duplicate name) state.subscriptions) state

-- why nobody may subscribe, if nobody may: as many are live as may be, as many were made as may be, or no subscriber is
-- left
abbrev pub subscribing_refusal : SessionState → Option Refusal
subscribing_refusal state =
    if nat_le USUAL_LIVE (count_by is_live state.subscriptions) then Some Refusal.TooMany
    else (if nat_le MOST_ENTRIES (length state.subscriptions) then Some Refusal.Exhausted
    else (if state.stock == 0 then Some Refusal.TooMany else None))

-- a subscribing, unless it is refused; memory is taken for the buffer
abbrev pub subscribing_unless : Option Refusal → SessionState → List Bool → List ℕ → ℕ
    → CommandResult
subscribing_unless (Some refusal) state refusals name number = refused_result state refusals refusal
subscribing_unless None state refusals name number =
    result_unless_no_memory state refusals
    (λ left. record {
      reply = Name name;
      state = state_after_subscribing name number state;
      refusals = left;
    })

-- a second subscription of a live one's name is refused, and the live one gets its error
abbrev pub duplicate_result : SessionState → List Bool → List ℕ → CommandResult
duplicate_result state refusals name = record {
  reply = Refused Refusal.Duplicate;
  state = state_after_duplicate name state;
  refusals = refusals;
}

-- `sub NAME N`: memory is taken for whom it may wake, then the name is judged, and then whether anybody may subscribe
abbrev pub sub_result : SessionState → List Bool → List ℕ → ℕ → CommandResult
sub_result state refusals name number =
    result_unless_no_memory state refusals
    (λ left. if is_subscribed name state.subscriptions then duplicate_result state left name
    else subscribing_unless (subscribing_refusal state) state left name number)
