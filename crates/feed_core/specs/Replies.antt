-- The replies of a subscriber as a list: those of a turn in which each callback went on or was refused memory, and the
-- end that the last one asks for (`Flow.Subscriber` and `Flow.Subscription.cancel`, Java SE 17; Reactive Streams 1.0,
-- 2.13).
use Rattle.std.specs.Prelude.{◌≡◌, ◌⊎◌, Bool, true, Option, None, Some, List, [], ◌∷◌, ◌++◌}
use Rattle.feed_core.specs.Prelude.{Signal, How, Outlook, Again, Resting, Ended}
use Rattle.feed_core.specs.Answered.{end_on}
use Rattle.feed_core.specs.AnsweredTurn.{Reply, refused, replies_to}

-- the reply beside those to what was told, if the end is that memory was refused
abbrev pub refusal_at_end : How → List Reply
refusal_at_end How.Completed = []
refusal_at_end (How.Errored _) = []
refusal_at_end How.Cancelled = []
refusal_at_end (How.Failed _) = []
refusal_at_end How.OutOfMemory = refused ∷ []

abbrev pub refusal_in : Outlook → List Reply
refusal_in Again = []
refusal_in Resting = []
refusal_in (Ended how) = refusal_at_end how

-- the replies in a turn that told these signals and had this outlook, if each callback went on or was refused memory
abbrev pub replies_in : List Signal → Outlook → List Reply
replies_in told outlook = replies_to told ++ refusal_in outlook

-- each of these goes on
abbrev pub AllGoOn : List Reply → Type 0
AllGoOn [] = Unit {0}
AllGoOn (reply ∷ replies) = (end_on reply ≡ None) × AllGoOn replies

-- an end that no reply asked for: it comes by another cause, and is a cancel only if the owner has cancelled
abbrev pub IsUnasked : Bool → How → Type 0
IsUnasked cancelled How.Completed = Unit {0}
IsUnasked cancelled (How.Errored _) = Unit {0}
IsUnasked cancelled How.Cancelled = cancelled ≡ true
IsUnasked cancelled (How.Failed _) = ⊥
IsUnasked cancelled How.OutOfMemory = ⊥

-- the last reply asks for just this end, and each before it goes on
pub record AsksFor (how : How) (replies : List Reply) : Type 0 where
  pub before : List Reply
  pub last : Reply
  pub are : replies ≡ before ++ last ∷ []
  pub went_on : AllGoOn before
  pub asks : end_on last ≡ Some how

-- the end, if there is one, is what the last reply asks for; or each reply goes on, and no reply asked for the end
abbrev pub EndsBy : Bool → Option How → List Reply → Type 0
EndsBy cancelled None replies = AllGoOn replies
EndsBy cancelled (Some how) replies = (AllGoOn replies × IsUnasked cancelled how) ⊎ AsksFor how replies
