use Rattle.std.proofs.Common.{rules}
use Rattle.async_pool.proofs.Places.{thief_joins}
use Rattle.async_pool.proofs.crew.new_queues.Goals as goal

pub loop-alloc-preserved : goal.loop-alloc-preserved
loop-alloc-preserved g c = let was = c.loop-alloc.invariant in record {
  placed = thief_joins c.loop-alloc.queues.items _ c.loop-alloc.thieves.items _ c.in_ok-queue.queue c.in_ok-thief.field-0 c.in_ok-push-2.ensures.items c.in_ok-push.ensures.items was.placed was.same c.in_ok-thief.ensures;
  same = search rules;
  thieves = search rules;
  enough = search rules;
}
