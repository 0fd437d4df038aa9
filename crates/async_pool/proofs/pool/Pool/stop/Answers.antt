use Rattle.async_pool.proofs.Sources.{gives_all}
use Rattle.async_pool.proofs.pool.Pool.stop.Goals as goal

pub returns : goal.returns
returns g c = gives_all _ _ _ _ c.into_room-left.ensures.unused c.into_room-left.ensures.room c.drain_into.ensures
