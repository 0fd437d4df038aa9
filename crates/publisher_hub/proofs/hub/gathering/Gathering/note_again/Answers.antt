-- One more drop stands.
use Rattle.std.proofs.Common.{rules, ◌≡◌, Some, length, refl}
use Rattle.publisher_hub.specs.Gathering.{dropped_by}
use Rattle.publisher_hub.proofs.hub.gathering.Gathering.note_again.Goals as goal

pub returns-clause-drops : goal.returns-clause-drops
returns-clause-drops g c = let one : length (dropped_by c.args.number (Some c.args.answer)) ≡ 1 = search rules in rw one refl

pub returns-clause-due_capacity : goal.returns-clause-due_capacity
returns-clause-due_capacity g c = refl

pub returns-clause-missed : goal.returns-clause-missed
returns-clause-missed g c = refl

pub returns-clause-shares : goal.returns-clause-shares
returns-clause-shares g c = refl

pub returns-in-Some-Accepted-clause-missed : goal.returns-in-Some-Accepted-clause-missed
returns-in-Some-Accepted-clause-missed g c = refl

pub returns-in-Some-Accepted-clause-due_capacity : goal.returns-in-Some-Accepted-clause-due_capacity
returns-in-Some-Accepted-clause-due_capacity g c = c.push_started.ensures.capacity
