-- If no task was started, what is spare stays as it was.
use Rattle.std.proofs.Common.{◌≡◌, None, refl}
use Rattle.feed_cell.proofs.Signals.HandOver.{if_none}
use Rattle.feed_cell.proofs.cell.signal.start.Goals as goal

pub returns-in_err-seat-clause-none : goal.returns-in_err-seat-clause-none
returns-in_err-seat-clause-none g c =
    let stays : (c.args.seat ≡ None) × (c.args.spare.now ≡ c.args.spare.now) = (c.in_err-seat.was, refl) in
    if_none _ stays
