-- The number of a full buffer is gathered.
use Rattle.publisher_hub.proofs.hub.gathering.Gathering.note.Goals as goal

pub returns-in-Some-Full-clause-missed : goal.returns-in-Some-Full-clause-missed
returns-in-Some-Full-clause-missed g c = rw (c.in-Some-Full.is, c.in-Some-Full.field-0-is) c.push_reserved-in-Some-Full.ensures.items
