use Rattle.async_pool.specs.Bags.{begins}
use Rattle.async_pool.proofs.pool.Pool+J.new.Goals as goal

pub with-requires-clause-inbox : goal.with-requires-clause-inbox
with-requires-clause-inbox g c κs within = begins

pub with-requires-clause-queues : goal.with-requires-clause-queues
with-requires-clause-queues g c κs within = begins
