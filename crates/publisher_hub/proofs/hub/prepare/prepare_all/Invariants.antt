use Rattle.publisher_hub.proofs.PartialRounds.Preparing.{IsPreparing}
use Rattle.publisher_hub.proofs.hub.prepare.prepare_all.Given as goal

abbrev pub invariant-loop-number : goal.invariant-loop-number
invariant-loop-number g l =
    IsPreparing g.F.Feed.meaning g.F.Feed.does l.next l.capacity l.live l.number-index l.room l.initial.entries l.entries
