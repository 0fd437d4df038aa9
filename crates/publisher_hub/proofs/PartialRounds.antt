-- A round over the live subscriptions, as far as it has come.
pub mod Closing
pub mod Looking
pub mod Naming
pub mod Next
pub mod Preparing
pub mod Progress
pub mod Putting
pub mod PuttingBatches
pub mod Retrying
pub mod Rooms
pub mod Shares
pub mod Surveying
