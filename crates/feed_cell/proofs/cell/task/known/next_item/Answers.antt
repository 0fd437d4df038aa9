-- An item that the task knows of was put and requested.
use Rattle.std.proofs.Common.{arith}
use Rattle.feed_cell.proofs.Tasks.Known.{takes_known}
use Rattle.feed_cell.proofs.cell.task.known.next_item.Goals as goal

pub returns-then-has_next-clause-some : goal.returns-then-has_next-clause-some
returns-then-has_next-clause-some g c =
    let next = c.has_next.ensures.0 c.if-has_next.true in
    takes_known c.args.party.now.seat.me c.grab.new.party.seat.me c.take-item.new.party.seat.me c.take-item.result c.grab.ensures.grabs.1.0
    (c.requires.stage, omega (arith, next.0, c.requires.counted, c.requires.known.0), omega (arith, next.1, c.requires.counted, c.requires.own, c.requires.known.1))
    (omega (arith, next.1, c.requires.counted)) c.grab.ensures.grabs.1.1 c.take-item.ensures.taken.1
