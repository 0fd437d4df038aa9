-- Who asked for the end of a turn: its owner, or the last callback by what that replied.
use Rattle.std.proofs.Common.{◌≡◌, ◌↔◌, Bool, List, Option, Some, ap, sym, ◌∙◌, subst}
use Rattle.feed_core.specs.Prelude.{How, Outlook, Again, Resting, Ended, Signal}
use Rattle.feed_core.specs.AnsweredTurn.{Reply, refused}
use Rattle.feed_core.specs.Desk.{DeskState}
use Rattle.feed_core.specs.EndedBy.{EndsWith, IsEndedBy}
use Rattle.feed_core.specs.Steps.{IsPart}
use Rattle.feed_core.specs.Turn.{how_after}
use Rattle.feed_core.proofs.Lists.Replies.{ended_by, last_refused}

-- the end that an outlook tells
ended_so : (outlook : Outlook) (how : How) → how_after outlook ≡ Some how → outlook ≡ Ended how
ended_so Again how e = cc
ended_so Resting how e = cc
ended_so (Ended other) how e = let is : other ≡ how = cc in ap Ended is

module _ {old new : DeskState} {seen : List Signal} {outlook : Outlook} {replies : List Reply} (part : IsPart old new seen outlook replies) where
  pub turn_ended_by : IsEndedBy old.is_cancelled new.lane.how new.replied
  turn_ended_by = subst (λ (is : Bool). IsEndedBy is new.lane.how new.replied) part.cancelled (ended_by new.is_cancelled new.lane.how new.replied part.accounted.ends)

  -- it ran out of memory exactly if the last callback says so
  pub turn_refused : (outlook ≡ Ended How.OutOfMemory) ↔ EndsWith refused new.replied
  turn_refused = (
    λ e. subst (λ (h : Option How). IsEndedBy old.is_cancelled h new.replied) (part.how ∙ ap how_after e) turn_ended_by,
    λ last. ended_so outlook How.OutOfMemory (sym part.how ∙ last_refused new.is_cancelled new.lane.how new.replied part.accounted.ends last),
  )
