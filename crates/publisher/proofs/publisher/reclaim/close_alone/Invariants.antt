use Rattle.std.proofs.Common.{◌≡◌, None}
use Rattle.std.specs.Prelude.{IfErr, IfOk}
use Rattle.feed_cell.specs.Left.{IsLeftOf}
use Rattle.feed_cell.specs.Parties.{not_ready}
use Rattle.publisher.proofs.publisher.reclaim.close_alone.Given as goal

abbrev pub invariant-loop : goal.invariant-loop
invariant-loop g l = (goal.iterator-loop g).can_next l.iterator' × ((goal.iterator-loop g).is_finite l.iterator'
    × (IfOk l.closed (IsLeftOf g.B.Listener.told g.B.Listener.replied l.fn.producer.end None)
    × IfErr l.closed (λ back. back ≡ not_ready l.fn.producer)))
