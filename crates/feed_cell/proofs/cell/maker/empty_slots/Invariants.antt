use Rattle.std.proofs.Common.{◌≡◌, ◌-◌, ◌≤◌, replicate, vec_capacity, vec_len}
use Rattle.feed_cell.specs.declared.cell.Held.TheVariants as Held
use Rattle.feed_cell.proofs.cell.maker.empty_slots.Given as goal

abbrev pub invariant-loop-i : goal.invariant-loop-i
invariant-loop-i g l = (l.i ≤ l.count) × (l.slots.items ≡ replicate l.i Held.Empty) × (vec_len l.slots ≡ l.i) × (l.count ≤ vec_capacity l.slots)

abbrev pub decreases-loop-i : goal.decreases-loop-i
decreases-loop-i g l = l.count - l.i
