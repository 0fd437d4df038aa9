use Rattle.async_pool.specs.Jobs.{IsTakerOf}
use Rattle.async_pool.proofs.pool.Pool.search.Given as goal

abbrev pub invariant-loop : goal.invariant-loop
invariant-loop g l = IsTakerOf l.self.jobs l.taker
