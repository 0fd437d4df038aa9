-- How the two ends of each subscription are brought together at the end of a publisher.
pub mod FindingRounds
pub mod LongerLists
pub mod Placing
pub mod TakenOut
