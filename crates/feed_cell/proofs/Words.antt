-- Marks, causes and numbers in the words of a subscription.
pub mod ControlBits
pub mod ControlWord
pub mod FourWords
pub mod Marks
