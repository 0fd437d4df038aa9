pub mod Command
pub mod Line
pub mod Mistake
pub mod Number
pub mod Reply
pub mod Word
pub mod Writing
