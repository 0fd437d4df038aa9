use Rattle.std.proofs.Common.{◌≡◌, ◌++◌, []}
use Rattle.std.specs.Vec.{vec_capacity}
use Rattle.crossbeam_deque.specs.Handles.{view}
use Rattle.async_pool.specs.Thief.{IsPassOfThief}
use Rattle.async_pool.proofs.thief.Thief.drain.Given as goal

abbrev pub invariant-loop : goal.invariant-loop
invariant-loop g l = record {
  of : IsPassOfThief l.self l.pass;
  put : (view l.pass).put ≡ [];
  order : l.left.items ≡ l.initial.left.items ++ (view l.pass).taken;
  room : vec_capacity l.left ≡ vec_capacity l.initial.left;
}
