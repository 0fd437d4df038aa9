-- A subscription was looked at, and that was counted.
use Rattle.std.proofs.Common.{subst}
use Rattle.publisher_hub.specs.Overview.{CountsLook}
use Rattle.publisher_hub.proofs.hub.look.look_one.Goals as goal

pub returns : goal.returns
returns g c =
    let glance = c.look-glance.result in
    (glance, (c.look-glance.ensures, subst (λ waited. CountsLook c.args.capacity waited glance c.args.overview.now c.count_look.new.self) c.waits-waited.ensures c.count_look.ensures))
