-- Which causes end a subscription, and in which order they are obeyed.
use Rattle.std.specs.Prelude.{◌≡◌, Bool, true, false, Option, None, Some}
use Rattle.feed_core.specs.Prelude.{Fault, Published, IllegalArgument, IllegalState, Ending, ErrorOrder, Overtake, AfterItems, How}
use Rattle.feed_core.specs.declared.cause.Causes.{Causes}

-- no cause at all, if a closing error is told in this order
abbrev pub no_causes_in : ErrorOrder → Causes
no_causes_in order = record { order = order; cancel = false; argument = false; state = false; closing = None; failed = None; memory = false }

-- no cause at all, if a closing error overtakes the items
abbrev pub no_causes : Causes
no_causes = no_causes_in Overtake

-- the end by this cause, if it is one, or else the next
abbrev pub end_where : Bool → How → Option How → Option How
end_where true how next = Some how
end_where false how next = next

-- the end that a closing error is told as, if it overtakes the items (`SubmissionPublisher.closeExceptionally`, Java
-- SE 17)
abbrev pub error_at_once : Option Ending → ErrorOrder → Option How
error_at_once None order = None
error_at_once (Some Ending.Normal) order = None
error_at_once (Some (Ending.Failed code)) Overtake = Some (How.Errored (Published code))
error_at_once (Some (Ending.Failed code)) AfterItems = None

-- the end at once: cancelled, then a bad request, then a second subscribing, then the closing error if it overtakes
-- the items (`Flow.Subscription.cancel` and `request`, `SubmissionPublisher.subscribe` and `closeExceptionally`, Java
-- SE 17)
abbrev pub stops : Causes → Option How
stops causes =
    end_where causes.cancel How.Cancelled
    (end_where causes.argument (How.Errored IllegalArgument)
    (end_where causes.state (How.Errored IllegalState)
    (error_at_once causes.closing causes.order)))

-- the end that waits until every item was given: completion, and the closing error if it waits for the items
-- (`SubmissionPublisher.close` and `closeExceptionally`, Java SE 17)
abbrev pub end_at_last : Option Ending → ErrorOrder → Option How
end_at_last None order = None
end_at_last (Some Ending.Normal) order = Some How.Completed
end_at_last (Some (Ending.Failed code)) Overtake = None
end_at_last (Some (Ending.Failed code)) AfterItems = Some (How.Errored (Published code))

abbrev pub closes : Causes → Option How
closes causes = end_at_last causes.closing causes.order

-- no end that a failed callback brought about
abbrev pub IsNoFailure : Option How → Type 0
IsNoFailure None = Unit {0}
IsNoFailure (Some How.Completed) = Unit {0}
IsNoFailure (Some (How.Errored _)) = Unit {0}
IsNoFailure (Some How.Cancelled) = Unit {0}
IsNoFailure (Some (How.Failed _)) = ⊥
IsNoFailure (Some How.OutOfMemory) = Unit {0}

-- the cause that this fault is told for
abbrev pub IsFaultOf : Causes → Fault → Type 0
IsFaultOf causes (Published code) = causes.closing ≡ Some (Ending.Failed code)
IsFaultOf causes IllegalArgument = causes.argument ≡ true
IsFaultOf causes IllegalState = causes.state ≡ true

-- the causes, and with them the one that a callback brought about with this end
abbrev pub with_cause_of : How → Causes → Causes
with_cause_of How.Completed causes = causes
with_cause_of (How.Errored _) causes = causes
with_cause_of How.Cancelled causes = record causes { cancel = true }
with_cause_of (How.Failed code) causes = record causes { failed = Some code }
with_cause_of How.OutOfMemory causes = record causes { memory = true }
