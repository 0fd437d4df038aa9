use Rattle.std.proofs.Common.{◌≡◌, ◌++◌, length}
use Rattle.std.specs.Vec.{vec_capacity}
use Rattle.std.specs.Vec.Iter.{into_iter_items, into_iter_len}
use Rattle.hub_tests.proofs.counting.feed.push_all.Given as goal

abbrev pub invariant-loop-item : goal.invariant-loop-item
invariant-loop-item l = (l.yielded ++ into_iter_items l.item-iterator ≡ into_iter_items l.initial.item-iterator)
    × (into_iter_len l.item-iterator ≡ length (into_iter_items l.item-iterator))
    × (l.accepted.items ≡ l.initial.accepted.items ++ l.yielded)
    × (vec_capacity l.accepted ≡ vec_capacity l.initial.accepted)
