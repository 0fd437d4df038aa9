use Rattle.std.proofs.Common.{◌≡◌, ◌≤◌, ◌++◌, ◌-◌, None, replicate, vec_len}
use Rattle.async_pool.specs.declared.crew.TheConstants.{MOST_WORKERS}
use Rattle.async_pool.proofs.crew.with_places.Given as goal

abbrev pub invariant-loop-queues : goal.invariant-loop-queues
invariant-loop-queues g l = record {
  queues : l.queues.items ≡ l.initial.queues.items ++ replicate (vec_len l.queues - vec_len l.initial.queues) None;
  more : vec_len l.initial.queues ≤ vec_len l.queues;
  enough : vec_len l.queues ≤ MOST_WORKERS;
}

abbrev pub decreases-loop-queues : goal.decreases-loop-queues
decreases-loop-queues g l = MOST_WORKERS - vec_len l.queues
