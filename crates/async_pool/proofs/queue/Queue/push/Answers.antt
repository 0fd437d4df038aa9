use Rattle.async_pool.proofs.Steps.{queue_puts}
use Rattle.async_pool.proofs.queue.Queue.push.Goals as goal

pub push_as-requires-clause-pushes : goal.push_as-requires-clause-pushes
push_as-requires-clause-pushes g c = queue_puts _ _ g.Q.Rule.kept _ _ _
