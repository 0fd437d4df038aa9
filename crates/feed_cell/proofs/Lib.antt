pub mod Left
pub mod Producers
pub mod Signals
pub mod Table
pub mod Tasks
pub mod Words
