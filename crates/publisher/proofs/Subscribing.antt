-- What a subscribing gives, and what a refused one leaves.
pub mod FreeNames
pub mod Refused
pub mod Subscribed
