-- A close keeps the Flow rules.
use Rattle.std.proofs.Common.{◌≡◌, None, subst, rules}
use Rattle.feed_core.specs.Desk.{DeskState}
use Rattle.feed_core.specs.Lane.{LaneState, IsFlow}
use Rattle.feed_core.specs.Sound.{lane_of}
use Rattle.feed_core.proofs.Lanes.FlowRules.{flow_kept}
use Rattle.feed_core.proofs.Lanes.Sound.{sound_lane_with_closing}
use Rattle.feed_core.proofs.desk.call.DeskFeed.end.Goals as goal

pub returns-then-is_none-clause-exact : goal.returns-then-is_none-clause-exact
returns-then-is_none-clause-exact g c =
    let s = c.self.inside in
    let lane : LaneState = lane_of (g.B.Listener.told s.subscriber) s.held.items s.given s.asked s.causes s.how in
    let unclosed : lane.causes.closing ≡ None = search rules in
    record {
      first = search rules;
      later = search rules;
      starts = search rules;
      flow = flow_kept (sound_lane_with_closing lane c.args.ending c.self.invariant.0.in_order.sound unclosed);
    }

pub returns-else-is_none-clause-exact : goal.returns-else-is_none-clause-exact
returns-else-is_none-clause-exact g c = record {
  first = search rules;
  later = search rules;
  starts = search rules;
  flow = subst (λ (desk : DeskState). IsFlow desk.lane) c.self.view_is (flow_kept c.self.invariant.0.in_order.sound);
}
