use Rattle.std.proofs.Common.{arith}
use Rattle.async_pool.proofs.Places.{empty_place_added}
use Rattle.async_pool.proofs.crew.with_places.Goals as goal

pub loop-queues-preserved : goal.loop-queues-preserved
loop-queues-preserved g c = let was = c.loop-queues.invariant in let test = c.loop-queues-test.true in let counted = c.len.ensures in let len = c.in_ok-push.ensures.len in record {
  queues = empty_place_added _ _ _ _ _ _ was.queues was.more len c.in_ok-push.ensures.items;
  more = let more = was.more in omega arith;
  enough = omega arith;
}
