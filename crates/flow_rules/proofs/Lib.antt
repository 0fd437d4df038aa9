pub mod Items
pub mod Machine
pub mod Names
pub mod Sizes
