use Rattle.std.proofs.Common.{rules}
use Rattle.async_pool.proofs.Steps.{queue_finds_few, queue_takes}
use Rattle.async_pool.proofs.thief.Thief.steal_by.Goals as goal

pub steal_as-requires-clause-takes : goal.steal_as-requires-clause-takes
steal_as-requires-clause-takes g c = queue_takes _ _ g.Q.Rule.kept _ _ 1

pub steal_as-requires-clause-empty : goal.steal_as-requires-clause-empty
steal_as-requires-clause-empty g c = queue_finds_few _ _ g.Q.Rule.kept _ _ _ (search rules)
