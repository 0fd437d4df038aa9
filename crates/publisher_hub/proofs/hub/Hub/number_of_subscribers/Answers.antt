-- Those that go on were counted.
use Rattle.publisher_hub.proofs.hub.Hub.number_of_subscribers.Goals as goal

pub returns-clause-looks : goal.returns-clause-looks
returns-clause-looks g c = let seen = c.look_at_all.ensures.looks in (seen.0, (seen.1.0, seen.1.1.living))
