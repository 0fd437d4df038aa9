-- Each peek found nothing to do.
use Rattle.std.proofs.Common.{◌≡◌}
use Rattle.feed_cell.specs.Seats.{IsSameSeat}
use Rattle.feed_cell.specs.TaskLooks.{HasPassed}
use Rattle.feed_cell.specs.TaskSteps.{IsKnown}
use Rattle.feed_cell.proofs.cell.task.looks.serve_soon.Given as goal

abbrev pub invariant-loop-pauses : goal.invariant-loop-pauses
invariant-loop-pauses g l =
    HasPassed g.B.Listener.told g.B.Listener.replied l.fn.party.seat.me l.party.seat.me
    × (l.seen ≡ l.fn.seen)
    × IsSameSeat l.fn.party.seat l.party.seat
    × IsKnown l.known l.party.seat.me.0
