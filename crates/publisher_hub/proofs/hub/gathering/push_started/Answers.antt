-- What is due has the number and the task.
use Rattle.publisher_hub.proofs.hub.gathering.push_started.Goals as goal

pub returns-in-Some-clause-due : goal.returns-in-Some-clause-due
returns-in-Some-clause-due g c = rw c.in-Some.is c.push_reserved.ensures.items
