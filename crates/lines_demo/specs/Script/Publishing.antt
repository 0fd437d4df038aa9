-- `offer`, `retry` and `submit`: what they change, and what they are answered (`SubmissionPublisher`, Java SE 17).
use Rattle.std.specs.Prelude.{ℕ, zero, suc, ◌+◌, ◌==◌, max, ℤ, pos, negsuc, Bool, true, false, ◌&&◌, not, if◌then◌else◌, nat_le, nat_lt, Option, Some, None, List, length, map, fold, count_by}
use Rattle.std.specs.List.{list_any}
use Rattle.feed_core.specs.LaneCalls.{accepts, lane_with_item}
use Rattle.lines_demo.specs.Prelude.{MOST_PUBLICATIONS, Item, Ending, Refusal, LONGEST_TEXT, desk_after_put, is_gone, lag_of}
use Rattle.lines_demo.specs.Script.State.{SubscriptionState, SessionState, CommandResult, refused_result, result_unless_no_memory}
use Rattle.lines_demo.specs.Script.Waking.{with_subscriptions}
use Rattle.commands.specs.declared.reply.Reply.{Reply}
use Rattle.commands.specs.declared.reply.Reply.TheVariants.{Offered, Retried, Submitted}

-- the next item of a script: all have source 0, so its number among the source's items is its serial number
abbrev pub next_item : SessionState → List ℕ → Item
next_item state text = record { source = 0; seq = state.serial; serial = state.serial; text = text }

-- whether its buffer has no room for an item that it would take
abbrev pub is_full : SubscriptionState → Bool
is_full subscription = not (is_gone subscription.desk.lane)
    && (lag_of subscription.desk.lane == subscription.desk.capacity)

-- a subscription after an item was offered to it: it takes it if it has room, and if it has none the drop is counted
abbrev pub subscription_after_offer : Item → SubscriptionState → SubscriptionState
subscription_after_offer item subscription = record subscription {
  dropped = if is_full subscription then subscription.dropped + 1 else subscription.dropped;
  desk = desk_after_put item subscription.desk;
}

-- where a script stands after a publication: each has a serial number of its own
abbrev pub state_after_publication : List ℕ → SessionState → SessionState
state_after_publication text state =
    with_subscriptions (map (subscription_after_offer (next_item state text)) state.subscriptions)
    (record state { serial = state.serial + 1 })

-- how many items a subscription holds with this one, if it takes it, and else 0
abbrev pub lag_with : Item → SubscriptionState → ℕ
lag_with item subscription =
    if accepts subscription.desk.capacity subscription.desk.lane
    then lag_of (lane_with_item item subscription.desk.lane) else 0

-- the greatest lag of those that take the item, and 0 if nobody does
abbrev pub greatest_lag : Item → List SubscriptionState → ℕ
greatest_lag item subscriptions = fold max 0 (map (lag_with item) subscriptions)

-- how many subscriptions drop an item that is offered now
abbrev pub drop_count : List SubscriptionState → ℕ
drop_count subscriptions = count_by is_full subscriptions

-- minus the number of drops, or the greatest lag if nobody drops the item (`SubmissionPublisher.offer`, Java SE 17)
abbrev pub drops_or_lag : ℕ → ℕ → ℤ
drops_or_lag zero lag = pos lag
drops_or_lag (suc drops) lag = negsuc drops

-- what an offer answers
abbrev pub offer_answer : Item → List SubscriptionState → ℤ
offer_answer item subscriptions =
    drops_or_lag (drop_count subscriptions) (greatest_lag item subscriptions)

-- why a text is not published, if it is not: the publisher was closed, or there are no more serial numbers
abbrev pub publication_refusal : SessionState → Option Refusal
publication_refusal state = by state.closing where
  by : Option Ending → Option Refusal
  by (Some ending) = Some (Refusal.Closed ending)
  by None = if nat_le MOST_PUBLICATIONS state.serial then Some Refusal.Exhausted else None

-- a refusal, or that the call would wait
abbrev pub refusal_or_wait : Option Refusal → Bool → Option Refusal
refusal_or_wait (Some refusal) waits = Some refusal
refusal_or_wait None true = Some Refusal.WouldWait
refusal_or_wait None false = None

-- why a text is not submitted, if it is not: a submit would wait if any subscription has no room
abbrev pub submit_refusal : SessionState → Option Refusal
submit_refusal state =
    refusal_or_wait (publication_refusal state) (list_any is_full state.subscriptions)

-- a publication, unless it is refused
abbrev pub publication_unless : Option Refusal → (Item → List SubscriptionState → Reply)
    → SessionState → List Bool → List ℕ → CommandResult
publication_unless (Some refusal) reply state refusals text = refused_result state refusals refusal
publication_unless None reply state refusals text = record {
  reply = reply (next_item state text) state.subscriptions;
  state = state_after_publication text state;
  refusals = refusals;
}

-- a publication: a text that is too long is refused, then memory may be, and then the publisher may have a reason
abbrev pub publication_result : (SessionState → Option Refusal)
    → (Item → List SubscriptionState → Reply) → SessionState → List Bool → List ℕ → CommandResult
publication_result refusal_of reply state refusals text =
    if nat_lt LONGEST_TEXT (length text) then refused_result state refusals Refusal.LineTooLong
    else result_unless_no_memory state refusals
    (λ left. publication_unless (refusal_of state) reply state left text)

-- `offer TEXT`: it drops the item at each subscription that has no room
abbrev pub offered_reply : Item → List SubscriptionState → Reply
offered_reply item subscriptions = Offered (offer_answer item subscriptions)

abbrev pub offer_result : SessionState → List Bool → List ℕ → CommandResult
offer_result state refusals text =
    publication_result publication_refusal offered_reply state refusals text

-- `retry TEXT`: it offers once more to each subscription that has no room, in vain, since no turn is made between
abbrev pub retried_reply : Item → List SubscriptionState → Reply
retried_reply item subscriptions =
    Retried (offer_answer item subscriptions) (drop_count subscriptions)

abbrev pub retry_result : SessionState → List Bool → List ℕ → CommandResult
retry_result state refusals text =
    publication_result publication_refusal retried_reply state refusals text

-- `submit TEXT`: it is refused if any subscription has no room, and so drops nothing
abbrev pub submitted_reply : Item → List SubscriptionState → Reply
submitted_reply item subscriptions = Submitted (pos (greatest_lag item subscriptions))

abbrev pub submit_result : SessionState → List Bool → List ℕ → CommandResult
submit_result state refusals text =
    publication_result submit_refusal submitted_reply state refusals text

-- how many drops an answer to an offer tells
abbrev pub drops_in : ℤ → ℕ
drops_in (pos lag) = 0
drops_in (negsuc drops) = suc drops
