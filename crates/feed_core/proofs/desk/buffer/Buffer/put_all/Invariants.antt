use Rattle.std.proofs.Common.{◌≡◌, ◌++◌, length}
use Rattle.std.specs.Vec.Iter.{into_iter_items, into_iter_len}
use Rattle.std.specs.VecDeque.{deque_capacity}
use Rattle.feed_core.proofs.desk.buffer.Buffer.put_all.Given as goal

abbrev pub invariant-loop-one : goal.invariant-loop-one
invariant-loop-one l = (l.yielded ++ into_iter_items l.one-iterator ≡ into_iter_items l.initial.one-iterator)
    × (into_iter_len l.one-iterator ≡ length (into_iter_items l.one-iterator))
    × (l.self-inside.items.items ≡ l.initial.self-inside.items.items ++ l.yielded)
    × (deque_capacity l.self-inside.items ≡ deque_capacity l.initial.self-inside.items)
