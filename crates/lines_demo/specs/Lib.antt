pub mod Prelude
pub mod Script
pub mod Threads
