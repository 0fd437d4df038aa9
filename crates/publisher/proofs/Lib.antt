pub mod BothEnds
pub mod LeftLanes
pub mod Shares
pub mod SoundStates
pub mod Subscribing
pub mod Tickets
