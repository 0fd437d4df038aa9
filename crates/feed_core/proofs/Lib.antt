pub mod Desks
pub mod Interleavings
pub mod Lanes
pub mod Lists
pub mod Turns
