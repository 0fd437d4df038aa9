-- Who is woken: whose task a call has started. The woken make their turns when `run` comes.
use Rattle.std.specs.Prelude.{ℕ, Bool, true, false, ◌&&◌, not, Option, Some, None, is_none, List, [], ◌∷◌, ◌++◌, length, filter, slice_get}
use Rattle.std.specs.List.{range_with_len}
use Rattle.lines_demo.specs.Prelude.{owes}
use Rattle.lines_demo.specs.Script.State.{SubscriptionState, SessionState}

-- whether it has not ended
abbrev pub is_live : SubscriptionState → Bool
is_live subscription = is_none subscription.desk.lane.how

-- whether anybody is woken
abbrev pub has_woken : List ℕ → Bool
has_woken [] = false
has_woken (_ ∷ _) = true

-- whether a subscription is there and owes a turn
abbrev pub owes_if_there : Option SubscriptionState → Bool
owes_if_there None = false
owes_if_there (Some subscription) = owes subscription.desk

-- whether the subscription of this number owes a turn: its task was started, and it has not ended
abbrev pub owes_turn : List SubscriptionState → ℕ → Bool
owes_turn subscriptions number = owes_if_there (slice_get subscriptions number)

-- the numbers of the subscriptions that owe a turn now and owed none before, in order of subscription
abbrev pub newly_woken : List SubscriptionState → List SubscriptionState → List ℕ
newly_woken before now = filter (λ number. owes_turn now number && not (owes_turn before number))
    (range_with_len 0 (length now))

-- where a script stands once a call has left its subscriptions so: whom it has started is woken, after those that are
-- woken already
abbrev pub with_subscriptions : List SubscriptionState → SessionState → SessionState
with_subscriptions now state =
    record state { subscriptions = now; woken = state.woken ++ newly_woken state.subscriptions now }
