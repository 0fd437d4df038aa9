-- A publication of a batch of texts, from the looks to the answer.
pub mod AllSubscriptions
pub mod Backlogs
pub mod InTurn
pub mod Items
pub mod OneSubscription
pub mod Refused
pub mod Rooms
pub mod Shown
pub mod Whole
