-- The names of the list are those of the Hub.
use Rattle.publisher_hub.proofs.hub.Hub.is_subscribed.Goals as goal

pub returns-clause-named : goal.returns-clause-named
returns-clause-named g c = rw (← c.deref.ensures.value) c.has_name.ensures

pub returns-clause-looks : goal.returns-clause-looks
returns-clause-looks g c = let seen = c.look_at_all.ensures.looks in (seen.0, seen.1.0)
