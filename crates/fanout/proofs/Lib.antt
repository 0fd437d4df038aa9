pub mod Chosen
pub mod Cuts
pub mod Ends
pub mod Left
pub mod Skips
pub mod Words
