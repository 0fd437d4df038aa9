pub mod MadeUp
pub mod Places
pub mod Sources
pub mod Steps
