use Rattle.publisher_hub.proofs.PartialRounds.Looking.{IsLooking}
use Rattle.publisher_hub.proofs.hub.look.look_all.Given as goal

abbrev pub invariant-loop-number : goal.invariant-loop-number
invariant-loop-number g l =
    IsLooking g.F.Feed.meaning g.F.Feed.does l.next l.capacity l.live l.number-index l.overview l.initial.entries l.entries
