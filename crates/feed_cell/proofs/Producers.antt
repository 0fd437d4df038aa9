-- The steps of the producer: its look for room and its put.
pub mod Calls
pub mod Put
pub mod Room
