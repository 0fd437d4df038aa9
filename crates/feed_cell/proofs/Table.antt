-- The seats and slots of the table that the parties share, and what each step keeps of them.
pub mod FirstSeats
pub mod HandleSteps
pub mod Lists
pub mod Outlooks
pub mod Places
pub mod Seats
pub mod Tallies
