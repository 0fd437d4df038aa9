-- What most files import: the types of the crates below, and their variants (those of `Ending`, `How`, `Outlook` and
-- `Refusal` under the name of the type).
pub use Rattle.flow_rules.specs.declared.demand.TheConstants.{UNBOUNDED}
pub use Rattle.flow_rules.specs.declared.ending.Ending.{Ending}
pub use Rattle.flow_rules.specs.declared.ending.Ending.TheVariants as Ending
pub use Rattle.flow_rules.specs.declared.error_order.ErrorOrder.{ErrorOrder}
pub use Rattle.flow_rules.specs.declared.error_order.ErrorOrder.TheVariants.{Overtake, AfterItems}
pub use Rattle.flow_rules.specs.declared.how.How.{How}
pub use Rattle.flow_rules.specs.declared.how.How.TheVariants as How
pub use Rattle.flow_rules.specs.declared.item.Item.{Item}
pub use Rattle.flow_rules.specs.declared.item.TheConstants.{MOST_PUBLICATIONS}
pub use Rattle.flow_rules.specs.declared.refusal.Refusal.{Refusal}
pub use Rattle.flow_rules.specs.declared.refusal.Refusal.TheVariants as Refusal
pub use Rattle.flow_rules.specs.declared.signal.Fault.{Fault}
pub use Rattle.flow_rules.specs.declared.signal.Fault.TheVariants.{Published, IllegalArgument, IllegalState}
pub use Rattle.flow_rules.specs.declared.signal.Signal.{Signal}
pub use Rattle.flow_rules.specs.declared.signal.Signal.TheVariants.{Subscribed, Next, Complete, Error}
pub use Rattle.flow_rules.specs.declared.text.TheConstants.Text.{LONGEST as LONGEST_TEXT}
pub use Rattle.flow_rules.specs.Capacity.{capacity_of}
pub use Rattle.flow_rules.specs.Signals.{items_of}
pub use Rattle.feed_core.specs.declared.turn.outlook.Outlook.{Outlook}
pub use Rattle.feed_core.specs.declared.turn.outlook.Outlook.TheVariants as Outlook
pub use Rattle.feed_core.specs.Desk.{DeskState, owes, desk_without_looks, desk_after_put, desk_after_end, desk_after_demand, desk_after_request, desk_after_cancel, desk_after_turn}
pub use Rattle.feed_core.specs.Lane.{LaneState, IsFlow, IsSettled}
pub use Rattle.feed_core.specs.LaneCalls.{is_gone, lag_of}
