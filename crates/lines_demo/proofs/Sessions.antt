-- What holds of a session between two commands, and what each call leaves of it.
pub mod Acting
pub mod Acts
pub mod Admissions
pub mod Answered
pub mod Between
pub mod Duplicates
pub mod Inside
pub mod Lent
pub mod Looked
pub mod Offers
pub mod SeenPublishers
pub mod States
pub mod Subscribing
pub mod Turning
pub mod Turns
