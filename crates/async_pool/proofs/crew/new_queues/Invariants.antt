use Rattle.std.proofs.Common.{◌≡◌, ◌≤◌, ◌-◌, length, vec_len}
use Rattle.async_pool.specs.Thief.{AreThievesOf}
use Rattle.async_pool.proofs.crew.new_queues.Given as goal

abbrev pub invariant-loop-alloc : goal.invariant-loop-alloc
invariant-loop-alloc g l = record {
  placed : AreThievesOf l.queues.items l.thieves.items;
  same : length l.queues.items ≡ length l.thieves.items;
  thieves : vec_len l.thieves ≡ vec_len l.queues;
  enough : vec_len l.queues ≤ l.fn.workers;
}

abbrev pub decreases-loop-alloc : goal.decreases-loop-alloc
decreases-loop-alloc g l = l.fn.workers - vec_len l.queues
