-- Lists of subscriptions and of what they answered.
pub mod Gathering
pub mod Middles
pub mod Places
pub mod Updates
