use Rattle.std.proofs.Common.{◌≡◌, ◌+◌, ◌++◌, length}
use Rattle.std.specs.Vec.Iter.{into_iter_items, into_iter_len}
use Rattle.feed_cell.specs.ProducerSteps.{HasPlacedSome}
use Rattle.feed_cell.specs.Seats.{IsSameSeat}
use Rattle.feed_cell.proofs.cell.producer.steps.place_all.Given as goal

abbrev pub invariant-loop-item : goal.invariant-loop-item
invariant-loop-item g l = (l.yielded ++ into_iter_items l.item-iterator ≡ into_iter_items l.initial.item-iterator)
    × (into_iter_len l.item-iterator ≡ length (into_iter_items l.item-iterator))
    × IsSameSeat l.fn.party.seat l.party.seat
    × HasPlacedSome l.yielded l.fn.party.seat.me l.party.seat.me
    × (l.number ≡ l.fn.tail + length l.yielded)
