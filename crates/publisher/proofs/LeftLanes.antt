-- What is left of the subscriptions of a publisher, and what `finish` answers.
pub mod Answering
pub mod Concluding
pub mod FirstFailures
pub mod Judged
pub mod LeavingRounds
pub mod Ordering
pub mod Outcomes
pub mod ReclaimedLanes
