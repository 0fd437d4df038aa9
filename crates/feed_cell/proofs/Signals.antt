-- Signals of both sides, and how the task that one started gets its seat.
pub mod HandOver
pub mod Marks
pub mod Sent
pub mod Step
