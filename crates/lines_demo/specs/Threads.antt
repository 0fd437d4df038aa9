-- The program `threads`: what its command line asks for, and what it publishes.
pub mod Input
pub mod Plan
pub mod Report
pub mod Run
pub mod Sending
