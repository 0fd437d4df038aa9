use Rattle.std.proofs.Common.{◌≡◌, ◌≤◌, ◌++◌, length, vec_capacity}
use Rattle.std.specs.Vec.Iter.{into_iter_items, into_iter_len}
use Rattle.publisher.specs.Leaving.{ClosesAll}
use Rattle.publisher.proofs.finishing.close.close_all.Given as goal

abbrev pub invariant-loop-found : goal.invariant-loop-found
invariant-loop-found g l = (l.yielded ++ into_iter_items l.found-iterator ≡ into_iter_items l.initial.found-iterator)
    × (into_iter_len l.found-iterator ≡ length (into_iter_items l.found-iterator))
    × ClosesAll g.B.Listener.told g.B.Listener.replied l.yielded l.number l.lanes.items l.held.items l.first
    × (l.number ≡ length l.yielded)
    × (length (into_iter_items l.initial.found-iterator) ≤ vec_capacity l.lanes)
    × (length (into_iter_items l.initial.found-iterator) ≤ vec_capacity l.held)
