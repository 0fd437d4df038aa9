pub mod Lanes
pub mod Sources
