-- A look keeps the Flow rules.
use Rattle.std.proofs.Common.{rules}
use Rattle.feed_core.proofs.Lanes.FlowRules.{flow_kept}
use Rattle.feed_core.proofs.desk.call.DeskFeed.standing.Goals as goal

pub returns-clause-exact : goal.returns-clause-exact
returns-clause-exact g c = record {
  looked = search rules;
  ended = search rules;
  held = search rules;
  flow = flow_kept c.self.invariant.0.in_order.sound;
}
