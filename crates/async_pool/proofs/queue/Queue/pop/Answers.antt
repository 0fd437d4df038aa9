use Rattle.async_pool.proofs.Steps.{queue_finds, queue_takes}
use Rattle.async_pool.proofs.queue.Queue.pop.Goals as goal

pub pop_as-requires-clause-fifo : goal.pop_as-requires-clause-fifo
pop_as-requires-clause-fifo g c = λ _. queue_takes _ _ g.Q.Rule.kept _ _ 1

pub pop_as-requires-clause-empty : goal.pop_as-requires-clause-empty
pop_as-requires-clause-empty g c = queue_finds _ _ g.Q.Rule.kept _ _
