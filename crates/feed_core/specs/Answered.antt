-- What the replies of a subscriber amount to: what they request, and the causes that they bring about
-- (`Flow.Subscription.request` and `cancel`, Java SE 17; Reactive Streams 1.0, 3.9).
use Rattle.std.specs.Prelude.{ℕ, zero, suc, pos, negsuc, true, Option, Some, None, List, [], ◌∷◌, Ok, Err}
use Rattle.feed_core.specs.AnsweredTurn.{Reply}
use Rattle.feed_core.specs.Cause.{no_causes_in}
use Rattle.feed_core.specs.Prelude.{Answer, ErrorOrder, How, total_after}
use Rattle.feed_core.specs.declared.cause.Causes.{Causes}

-- what the answers have requested, after one more
abbrev pub own_after : Answer → ℕ → ℕ
own_after (Answer.Request (pos (suc n))) own = total_after own (suc n)
own_after _ own = own

-- the causes that the answers have brought about, after one more: a request of a number that is not positive is one
abbrev pub causes_after : Answer → Causes → Causes
causes_after Answer.Go causes = causes
causes_after (Answer.Request (pos zero)) causes = record causes { argument = true }
causes_after (Answer.Request (pos (suc n))) causes = causes
causes_after (Answer.Request (negsuc n)) causes = record causes { argument = true }
causes_after Answer.Cancel causes = record causes { cancel = true }
causes_after (Answer.Fail code) causes = record causes { failed = Some code }

-- the end that an answer asks for, if it does
abbrev pub end_of : Answer → Option How
end_of Answer.Go = None
end_of (Answer.Request n) = None
end_of Answer.Cancel = Some How.Cancelled
end_of (Answer.Fail code) = Some (How.Failed code)

-- after one reply more; a callback that was refused memory ends the subscription
abbrev pub own_on : Reply → ℕ → ℕ
own_on (Ok answer) own = own_after answer own
own_on (Err _) own = own

abbrev pub causes_on : Reply → Causes → Causes
causes_on (Ok answer) causes = causes_after answer causes
causes_on (Err _) causes = record causes { memory = true }

abbrev pub end_on : Reply → Option How
end_on (Ok answer) = end_of answer
end_on (Err _) = Some How.OutOfMemory

-- after these replies
abbrev pub own_since : ℕ → List Reply → ℕ
own_since own [] = own
own_since own (reply ∷ more) = own_since (own_on reply own) more

abbrev pub causes_since : Causes → List Reply → Causes
causes_since causes [] = causes
causes_since causes (reply ∷ more) = causes_since (causes_on reply causes) more

-- what all the replies of a subscriber request
abbrev pub own_by : List Reply → ℕ
own_by replies = own_since 0 replies

-- the causes that they bring about, in a subscription whose closing error is told in this order
abbrev pub causes_by : ErrorOrder → List Reply → Causes
causes_by order replies = causes_since (no_causes_in order) replies
