-- As many items were given as looks were made.
use Rattle.std.proofs.Common.{◌≡◌}
use Rattle.feed_cell.specs.Seats.{IsSameSeat}
use Rattle.feed_cell.specs.TaskSteps.{IsKnown}
use Rattle.feed_cell.specs.TaskTurns.{IsBeforeLook}
use Rattle.feed_cell.specs.Views.{RunsFree}
use Rattle.feed_cell.proofs.cell.task.turns.run.Given as goal

abbrev pub invariant-loop : goal.invariant-loop
invariant-loop g l =
    IsBeforeLook g.B.Listener.told g.B.Listener.replied l.stage l.counter l.fn.party.seat.me l.party.seat.me l.seen.signals
    × (l.seen.room ≡ l.fn.seen.room)
    × IsSameSeat l.fn.party.seat l.party.seat
    × RunsFree l.party.seat.me.0
    × IsKnown l.known l.party.seat.me.0
