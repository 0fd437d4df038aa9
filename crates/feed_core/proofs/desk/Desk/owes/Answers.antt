-- What a Desk keeps gives the rules of its lane, and a lane that owes no turn is at rest or has ended.
use Rattle.std.proofs.Common.{subst, ap, ◌∙◌, not}
use Rattle.feed_core.specs.Desk.{DeskState}
use Rattle.feed_core.specs.Lane.{IsFlow, IsSettled}
use Rattle.feed_core.proofs.Lanes.FlowRules.{flow_kept, settled_at_rest, settled_some}
use Rattle.feed_core.proofs.desk.Desk.owes.Goals as goal

pub returns-then-self-clause-flow : goal.returns-then-self-clause-flow
returns-then-self-clause-flow g c = subst (λ (desk : DeskState). IsFlow desk.lane) c.self.view_is (flow_kept c.self.invariant.0.in_order.sound)

pub returns-then-self-clause-settled : goal.returns-then-self-clause-settled
returns-then-self-clause-settled g c ended = subst (λ (desk : DeskState). IsSettled desk.lane) c.self.view_is (settled_some c.self.invariant.0.in_order.sound (c.is_none.ensures ∙ ap not ended))

pub returns-else-self-clause-flow : goal.returns-else-self-clause-flow
returns-else-self-clause-flow g c = subst (λ (desk : DeskState). IsFlow desk.lane) c.self.view_is (flow_kept c.self.invariant.0.in_order.sound)

pub returns-else-self-clause-settled : goal.returns-else-self-clause-settled
returns-else-self-clause-settled g c resting = subst (λ (desk : DeskState). IsSettled desk.lane) c.self.view_is (settled_at_rest c.self.invariant.0.in_order.sound (c.self.invariant.0.in_order.rests c.if-self.false))
