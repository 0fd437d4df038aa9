-- What each command but `run` changes, and what it is answered.
use Rattle.std.specs.Prelude.{ℕ, ◌==◌, Bool, true, if◌then◌else◌, Some, is_some, List, [], ◌∷◌, map}
use Rattle.std.specs.List.{list_any}
use Rattle.lines_demo.specs.Prelude.{AfterItems, Ending, Refusal, capacity_of, DeskState, desk_after_end, desk_after_request, desk_after_cancel}
use Rattle.commands.specs.Word.{is_word}
use Rattle.lines_demo.specs.Script.State.{SubscriptionState, SessionState, CommandResult, unchanged_result, refused_result, result_unless_no_memory}
use Rattle.lines_demo.specs.Script.Waking.{is_live, with_subscriptions}
use Rattle.lines_demo.specs.Script.Subscribing.{sub_result}
use Rattle.lines_demo.specs.Script.Publishing.{offer_result, retry_result, submit_result}
use Rattle.commands.specs.declared.command.Command.{Command}
use Rattle.commands.specs.declared.command.Command.TheVariants.{Cap, Late, Sub, Offer, Retry, Submit, Request, Cancel, Close, Fail, Run}
use Rattle.lines_demo.specs.declared.script.session.acting.Act.{Act}
use Rattle.commands.specs.declared.reply.Reply.TheVariants.{Capacity, Done, Idle, Ordered}

-- `cap N`: the capacity may be asked for until the beginning is over
abbrev pub cap_result : SessionState → List Bool → ℕ → CommandResult
cap_result state refusals capacity =
    if state.beginning.is_over then refused_result state refusals Refusal.BadCommand
    else (if capacity == 0 then refused_result state refusals Refusal.BadCapacity
    else result_unless_no_memory state refusals (λ left. record {
      reply = Capacity (capacity_of capacity);
      state = record state { capacity = capacity_of capacity };
      refusals = left;
    }))

-- a beginning in which a closing error waits for the items
abbrev pub late_state : SessionState → SessionState
late_state state = record state { beginning = record state.beginning { order = AfterItems } }

-- `late`: so may that errors wait for the items
abbrev pub late_result : SessionState → List Bool → CommandResult
late_result state refusals =
    if state.beginning.is_over then refused_result state refusals Refusal.BadCommand
    else record { reply = Ordered; state = late_state state; refusals = refusals }

-- whether any subscription ever had this name
abbrev pub is_known : List ℕ → List SubscriptionState → Bool
is_known name subscriptions =
    list_any (λ subscription. is_word subscription.name name) subscriptions

-- what the owner of a subscription does to it (`Flow.Subscription`, Java SE 17)
abbrev pub desk_after_act : Act → DeskState → DeskState
desk_after_act (Act.Request number) desk = desk_after_request number desk
desk_after_act Act.Cancel desk = desk_after_cancel desk

-- the subscriptions after the owner of the latest one of this name did this
abbrev pub subscriptions_after_act : List ℕ → Act → List SubscriptionState → List SubscriptionState
subscriptions_after_act name act [] = []
subscriptions_after_act name act (subscription ∷ later) =
    if is_known name later then subscription ∷ subscriptions_after_act name act later
    else (if is_word subscription.name name
    then (record subscription { desk = desk_after_act act subscription.desk }) ∷ later
    else subscription ∷ later)

-- `request NAME N` and `cancel NAME`: on an ended subscription, too
abbrev pub act_result : SessionState → List Bool → List ℕ → Act → CommandResult
act_result state refusals name act =
    if is_known name state.subscriptions then record {
      reply = Done;
      state = with_subscriptions (subscriptions_after_act name act state.subscriptions) state;
      refusals = refusals;
    }
    else refused_result state refusals Refusal.Unknown

-- a subscription after the publisher was closed: one that has ended stays as it is
abbrev pub subscription_after_closing : Ending → SubscriptionState → SubscriptionState
subscription_after_closing ending subscription =
    if is_live subscription
    then record subscription { desk = desk_after_end ending subscription.desk }
    else subscription

-- where a script stands after its publisher was closed
abbrev pub state_after_closing : Ending → SessionState → SessionState
state_after_closing ending state =
    with_subscriptions (map (subscription_after_closing ending) state.subscriptions)
    (record state { closing = Some ending })

-- a close in this way: only the first one does anything; memory is taken for whom it may wake
abbrev pub closing_result : Ending → SessionState → List Bool → CommandResult
closing_result ending state refusals =
    if is_some state.closing then unchanged_result state refusals Done
    else result_unless_no_memory state refusals
    (λ left. record { reply = Done; state = state_after_closing ending state; refusals = left })

-- a command other than `cap` and `late` was read
abbrev pub begun_state : SessionState → SessionState
begun_state state = record state { beginning = record state.beginning { is_over = true } }

-- any command but `cap` and `late` ends the beginning
abbrev pub state_at_command : Command → SessionState → SessionState
state_at_command (Cap capacity) state = state
state_at_command Late state = state
state_at_command (Sub name number) state = begun_state state
state_at_command (Offer text) state = begun_state state
state_at_command (Retry text) state = begun_state state
state_at_command (Submit text) state = begun_state state
state_at_command (Request name number) state = begun_state state
state_at_command (Cancel name) state = begun_state state
state_at_command Close state = begun_state state
state_at_command (Fail code) state = begun_state state
state_at_command Run state = begun_state state

-- what each command does; the turns of `run` are made before it
abbrev pub call_result : Command → SessionState → List Bool → CommandResult
call_result (Cap capacity) state refusals = cap_result state refusals capacity
call_result Late state refusals = late_result state refusals
call_result (Sub name number) state refusals = sub_result state refusals name number
call_result (Offer text) state refusals = offer_result state refusals text
call_result (Retry text) state refusals = retry_result state refusals text
call_result (Submit text) state refusals = submit_result state refusals text
call_result (Request name number) state refusals =
    act_result state refusals name (Act.Request number)
call_result (Cancel name) state refusals = act_result state refusals name Act.Cancel
call_result Close state refusals = closing_result Ending.Normal state refusals
call_result (Fail code) state refusals = closing_result (Ending.Failed code) state refusals
call_result Run state refusals = unchanged_result state refusals Idle

-- what a command is answered
abbrev pub command_result : Command → SessionState → List Bool → CommandResult
command_result command state refusals =
    call_result command (state_at_command command state) refusals
