-- What each call keeps of the lane of a subscription, and the Flow rules that follow from it.
pub mod Accounts
pub mod Calm
pub mod FlowRules
pub mod ObeyedAnswers
pub mod ProducerEnds
pub mod Sound
