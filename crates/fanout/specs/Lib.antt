pub mod Filter
pub mod Intake
pub mod Piece
pub mod Session
pub mod Strand
