use Rattle.publisher_hub.proofs.PartialRounds.Closing.{IsClosing}
use Rattle.publisher_hub.proofs.hub.close.end_all.Given as goal

abbrev pub invariant-loop-number : goal.invariant-loop-number
invariant-loop-number g l =
    IsClosing g.F.Feed.meaning g.F.Feed.does l.ending l.live l.number-index l.initial.entries l.entries l.initial.due l.due
