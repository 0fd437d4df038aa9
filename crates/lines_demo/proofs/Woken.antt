-- Whose tasks a call starts: those that owe a turn are woken, each once, and nobody else is.
pub mod Few
pub mod Lists
pub mod Signals
pub mod StartedNumbers
pub mod StartedTasks
pub mod Tasks
