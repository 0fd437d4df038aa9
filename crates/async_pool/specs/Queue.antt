-- What clauses see of a worker's queue.
use Rattle.std.specs.Prelude.{◌≡◌}
use Rattle.crossbeam_deque.specs.Handles.{worker_deque, worker_view}
use Rattle.async_pool.specs.declared.rule.Log.{Log}
use Rattle.async_pool.specs.declared.queue.Queue.{Queue}

module _ {J Q : Type 0} where
  -- what its worker put and took
  abbrev pub queue_view : Queue J Q → Log J
  queue_view queue = worker_view queue.end

  -- it is the same queue
  abbrev pub IsSameQueue : Queue J Q → Queue J Q → Type 0
  IsSameQueue old new = worker_deque new.end ≡ worker_deque old.end
