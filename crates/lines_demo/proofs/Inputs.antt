-- What is read, and the publications and subscribers that its words spell.
pub mod Checked
pub mod Lines
pub mod PlannedSubscribers
pub mod Reading
pub mod Sources
