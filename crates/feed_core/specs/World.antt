-- One subscription over all interleavings: its events, what each does, what holds after any list of them, and the laws
-- above.
pub mod Kept
pub mod Lawful
pub mod Laws
pub mod Runs
pub mod Table
pub mod Types
