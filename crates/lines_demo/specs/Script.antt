-- A script: its commands, what each one changes, and what it is answered.
pub mod Acting
pub mod Answering
pub mod Fault
pub mod Kept
pub mod Laws
pub mod Obeying
pub mod Playing
pub mod Publishing
pub mod RunScript
pub mod Running
pub mod Session
pub mod State
pub mod Subscribing
pub mod Turns
pub mod Waking
