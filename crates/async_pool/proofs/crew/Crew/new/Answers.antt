use Rattle.async_pool.proofs.Places.{empty_places_join}
use Rattle.async_pool.proofs.crew.Crew.new.Goals as goal

pub returns-clause-placed : goal.returns-clause-placed
returns-clause-placed g c = empty_places_join c.in_ok-queues.queues.items _ c.in_ok-queues.thieves.items _ c.in_ok-with_places.ensures.empty c.in_ok-queues.ensures.placed
