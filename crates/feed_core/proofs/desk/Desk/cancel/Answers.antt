-- A cancel keeps the Flow rules.
use Rattle.std.proofs.Common.{subst}
use Rattle.feed_core.specs.Desk.{DeskState}
use Rattle.feed_core.specs.Lane.{LaneState, IsFlow}
use Rattle.feed_core.specs.Sound.{lane_of}
use Rattle.feed_core.proofs.Lanes.FlowRules.{flow_kept}
use Rattle.feed_core.proofs.Lanes.Sound.{sound_lane_with_cancel}
use Rattle.feed_core.proofs.desk.Desk.cancel.Goals as goal

pub returns-then-self-clause-flow : goal.returns-then-self-clause-flow
returns-then-self-clause-flow g c = subst (λ (desk : DeskState). IsFlow desk.lane) c.self.view_is (flow_kept c.self.invariant.0.in_order.sound)

pub returns-clause-flow : goal.returns-clause-flow
returns-clause-flow g c =
    let s = c.self.inside in
    let lane : LaneState = lane_of (g.B.Listener.told s.subscriber) s.held.items s.given s.asked s.causes s.how in
    flow_kept (sound_lane_with_cancel lane c.self.invariant.0.in_order.sound)
