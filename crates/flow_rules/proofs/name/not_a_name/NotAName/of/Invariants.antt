-- The bytes before the one that is looked at may stand in a name.
use Rattle.std.proofs.Common.{◌≡◌, ◌≤◌, true, length, take, ◌-◌}
use Rattle.std.specs.List.{list_all}
use Rattle.flow_rules.specs.Name.{is_name_byte}
use Rattle.flow_rules.proofs.name.not_a_name.NotAName.of.Given as goal

abbrev pub invariant-loop-at : goal.invariant-loop-at
invariant-loop-at l = (l.at ≤ length l.bytes) × (list_all is_name_byte (take l.at l.bytes) ≡ true)

abbrev pub decreases-loop-at : goal.decreases-loop-at
decreases-loop-at l = length l.bytes - l.at
