use Rattle.std.proofs.Common.{◌≡◌, ◌++◌, []}
use Rattle.std.specs.Vec.{vec_capacity}
use Rattle.crossbeam_queue.specs.Passes.{view, IsPassOf}
use Rattle.async_pool.proofs.inbox.Inbox.drain.Given as goal

abbrev pub invariant-loop : goal.invariant-loop
invariant-loop g l = record {
  of : IsPassOf l.self.queue l.pass;
  put : (view l.pass).put ≡ [];
  order : l.left.items ≡ l.initial.left.items ++ (view l.pass).taken;
  room : vec_capacity l.left ≡ vec_capacity l.initial.left;
}
