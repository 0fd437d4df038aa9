-- What was taken out has ended, and is counted.
use Rattle.publisher.proofs.LeftLanes.ReclaimedLanes.{reclaimed_is}
use Rattle.publisher.proofs.publisher.Publisher.reclaim.Goals as goal

pub returns-in-Ok-clause-lane : goal.returns-in-Ok-clause-lane
returns-in-Ok-clause-lane g c =
    let taken = c.in-Ok.ensures.ok in
    reclaimed_is g.B.Listener.told g.B.Listener.replied _ _ _ c.in-Ok.taken c.close_ended.result c.close_ended.ensures
    taken.counted taken.over
