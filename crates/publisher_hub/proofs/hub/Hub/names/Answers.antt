-- The names of the list are those of the Hub.
use Rattle.publisher_hub.proofs.hub.Hub.names.Goals as goal

pub returns-clause-looks : goal.returns-clause-looks
returns-clause-looks g c = let seen = c.look_at_all.ensures.looks in (seen.0, seen.1.0)

pub returns-clause-ok : goal.returns-clause-ok
returns-clause-ok g c = rw (← c.deref.ensures.value) c.names_of.ensures.ok
