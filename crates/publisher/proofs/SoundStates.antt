-- What stands behind a publisher's lock stays as it should, call by call.
pub mod AdmittedStates
pub mod AskedStates
pub mod GrownStates
pub mod Histories
pub mod KeptStates
pub mod ReclaimedStates
pub mod BatchStates
