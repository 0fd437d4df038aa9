-- Nothing was left to do.
use Rattle.std.proofs.Common.{false, sym, subst}
use Rattle.feed_core.specs.declared.turn.outlook.Outlook.TheVariants.{Resting}
use Rattle.feed_core.specs.Accounts.{IsAccounted}
use Rattle.feed_core.specs.Desk.{DeskState}
use Rattle.feed_core.specs.Lane.{IsFlow}
use Rattle.feed_core.specs.Steps.{Looks}
use Rattle.feed_core.proofs.Lanes.FlowRules.{flow_kept}
use Rattle.feed_core.proofs.Turns.Looks.{looks_rested}
use Rattle.feed_core.proofs.desk.Desk.rest.Goals as goal

pub returns : goal.returns
returns g c seen =
    subst (λ (desk : DeskState). Looks c.args.self.now (record desk { started = false }) seen seen Resting) (sym c.self.view_is)
    (looks_rested c.args.self.now seen (subst (λ (desk : DeskState). IsFlow desk.lane) c.self.view_is (flow_kept c.self.invariant.0.in_order.sound)) (subst IsAccounted c.self.view_is c.self.invariant.1) c.requires.mid_turn.owed.1 c.requires.unstopped c.requires.all_given c.requires.waits)
