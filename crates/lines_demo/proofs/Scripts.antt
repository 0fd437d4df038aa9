-- The lines of a script, what each command does by the definition, and the laws that follow.
pub mod Laws
pub mod Lines
pub mod Replying
pub mod Results
pub mod RunEnds
pub mod SignalLines
pub mod SmallNumbers
pub mod Turns
