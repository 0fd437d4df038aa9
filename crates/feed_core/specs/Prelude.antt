-- What most files import: types, their variants (those of `Answer`, `Ending` and `How` under the name of the type), and
-- the words of clauses.
pub use Rattle.flow_rules.specs.declared.answer.Answer.{Answer}
pub use Rattle.flow_rules.specs.declared.answer.Answer.TheVariants as Answer
pub use Rattle.flow_rules.specs.declared.demand.TheConstants.{UNBOUNDED}
pub use Rattle.flow_rules.specs.declared.ending.Ending.{Ending}
pub use Rattle.flow_rules.specs.declared.ending.Ending.TheVariants as Ending
pub use Rattle.flow_rules.specs.declared.error_order.ErrorOrder.{ErrorOrder}
pub use Rattle.flow_rules.specs.declared.error_order.ErrorOrder.TheVariants.{Overtake, AfterItems}
pub use Rattle.flow_rules.specs.declared.how.How.{How}
pub use Rattle.flow_rules.specs.declared.how.How.TheVariants as How
pub use Rattle.flow_rules.specs.declared.item.Item.{Item}
pub use Rattle.flow_rules.specs.declared.item.TheConstants.{MOST_PUBLICATIONS}
pub use Rattle.flow_rules.specs.declared.refusal.NoMemory.{NoMemory}
pub use Rattle.flow_rules.specs.declared.signal.Fault.{Fault}
pub use Rattle.flow_rules.specs.declared.signal.Fault.TheVariants.{Published, IllegalArgument, IllegalState}
pub use Rattle.flow_rules.specs.declared.signal.Signal.{Signal}
pub use Rattle.flow_rules.specs.declared.signal.Signal.TheVariants.{Subscribed, Next, Complete, Error}
pub use Rattle.flow_rules.specs.Capacity.{capacity_of, IsCapacityOf}
pub use Rattle.flow_rules.specs.Demand.{total_after}
pub use Rattle.flow_rules.specs.Signals.{IsTerminalPart, IsFlowText, items_of}
pub use Rattle.feed_core.specs.declared.cause.Causes.{Causes}
pub use Rattle.feed_core.specs.declared.turn.outlook.Outlook.{Outlook}
pub use Rattle.feed_core.specs.declared.turn.outlook.Outlook.TheVariants.{Again, Resting, Ended}
pub use Rattle.feed_core.specs.declared.turn.TheConstants.{ITEMS_IN_A_TURN, SIGNALS_IN_A_TURN}
