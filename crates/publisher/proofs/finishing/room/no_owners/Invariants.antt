use Rattle.std.proofs.Common.{◌≡◌, ◌-◌, ◌≤◌, None, replicate, vec_capacity, vec_len}
use Rattle.publisher.proofs.finishing.room.no_owners.Given as goal

abbrev pub invariant-loop-i : goal.invariant-loop-i
invariant-loop-i g l = (l.i ≤ l.entries) × (l.owners.items ≡ replicate l.i None) × (vec_len l.owners ≡ l.i)
    × (l.entries ≤ vec_capacity l.owners)

abbrev pub decreases-loop-i : goal.decreases-loop-i
decreases-loop-i g l = l.entries - l.i
