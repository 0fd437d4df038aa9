-- What every command of a script keeps of its subscriptions and their names.
pub mod Commands
pub mod LatestNames
pub mod LiveNumbers
pub mod LiveSubscriptions
pub mod OneName
pub mod Scripts
pub mod SearchedNames
pub mod Subscriptions
pub mod Turns
