-- What holds of a Desk between any two of its calls.
pub mod Sound
pub mod Steps
