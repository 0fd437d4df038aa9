-- Who asked for the end of a subscription (`Flow.Subscription.cancel`, Java SE 17; Reactive Streams 1.0, 1.8 and 3.12).
use Rattle.std.specs.Prelude.{◌≡◌, ◌⊎◌, Bool, true, Option, Some, None, List, [], ◌∷◌, ◌++◌, Ok}
use Rattle.feed_core.specs.AnsweredTurn.{Reply, refused}
use Rattle.feed_core.specs.Prelude.{Answer, How}

-- this was the last of these replies
abbrev pub EndsWith : Reply → List Reply → Type 0
EndsWith reply replies = (before : List Reply) × (replies ≡ before ++ reply ∷ [])

-- a subscription was cancelled only by its owner or by its subscriber's last reply, and a callback failed, or was
-- refused memory, only if the last reply says so
abbrev pub IsEndedBy : Bool → Option How → List Reply → Type 0
IsEndedBy cancelled None replies = Unit {0}
IsEndedBy cancelled (Some How.Completed) replies = Unit {0}
IsEndedBy cancelled (Some (How.Errored fault)) replies = Unit {0}
IsEndedBy cancelled (Some How.Cancelled) replies = (cancelled ≡ true) ⊎ EndsWith (Ok Answer.Cancel) replies
IsEndedBy cancelled (Some (How.Failed code)) replies = EndsWith (Ok (Answer.Fail code)) replies
IsEndedBy cancelled (Some How.OutOfMemory) replies = EndsWith refused replies
