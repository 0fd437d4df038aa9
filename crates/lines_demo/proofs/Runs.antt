pub mod Leaving
pub mod Sending
