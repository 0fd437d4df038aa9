-- A second subscribing keeps the Flow rules.
use Rattle.std.proofs.Common.{rules}
use Rattle.feed_core.specs.Lane.{LaneState}
use Rattle.feed_core.specs.Sound.{lane_of}
use Rattle.feed_core.proofs.Lanes.FlowRules.{flow_kept}
use Rattle.feed_core.proofs.Lanes.Sound.{sound_lane_with_duplicate}
use Rattle.feed_core.proofs.desk.call.DeskFeed.duplicate.Goals as goal

pub returns-clause-exact : goal.returns-clause-exact
returns-clause-exact g c =
    let s = c.self.inside in
    let lane : LaneState = lane_of (g.B.Listener.told s.subscriber) s.held.items s.given s.asked s.causes s.how in
    record {
      marked = search rules;
      starts = search rules;
      flow = flow_kept (sound_lane_with_duplicate lane c.self.invariant.0.in_order.sound);
    }
