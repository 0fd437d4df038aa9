-- What every event of a World keeps, event by event, and what follows from it.
pub mod Asking
pub mod Causing
pub mod Cutting
pub mod Ending
pub mod Events
pub mod Growing
pub mod Handing
pub mod Laws
pub mod Lawfulness
pub mod Putting
pub mod Reaching
pub mod Resting
pub mod Running
pub mod Signalling
