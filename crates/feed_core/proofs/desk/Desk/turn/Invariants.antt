-- As many items were given as looks were made.
use Rattle.std.proofs.Common.{◌≡◌}
use Rattle.feed_core.proofs.Turns.Loop.{TurnSoFar}
use Rattle.feed_core.proofs.desk.Desk.turn.Given as goal

abbrev pub invariant-loop : goal.invariant-loop
invariant-loop g l = TurnSoFar l.counter l.fn.self l.self l.seen.signals × (l.seen.room ≡ l.fn.seen.room)
