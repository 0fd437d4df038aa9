use Rattle.std.proofs.Common.{◌≡◌}
use Rattle.crossbeam_deque.specs.Handles.{view}
use Rattle.async_pool.specs.Thief.{IsPassOfThief}
use Rattle.async_pool.proofs.thief.Thief.steal_by.Given as goal

abbrev pub invariant-loop : goal.invariant-loop
invariant-loop g l = IsPassOfThief l.self l.pass × (view l.pass ≡ view l.initial.pass)
