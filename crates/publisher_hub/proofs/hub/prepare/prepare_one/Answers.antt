-- A subscription was looked at and made ready, and its room counted.
use Rattle.std.proofs.Common.{subst}
use Rattle.publisher_hub.specs.Overview.{CountsRoom}
use Rattle.publisher_hub.proofs.hub.prepare.prepare_one.Goals as goal

pub returns-clause-ok : goal.returns-clause-ok
returns-clause-ok g c =
    let glance = c.in_ok-glance.glance in
    (glance, (c.in_ok-glance.ensures.ok, subst (λ waited. CountsRoom c.args.capacity waited glance c.args.room.now c.count.new.self) c.waits-waited.ensures c.count.ensures))
