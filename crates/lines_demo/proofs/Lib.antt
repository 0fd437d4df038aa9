pub mod HubCalls
pub mod Inputs
pub mod Kept
pub mod Reports
pub mod Runs
pub mod Scripts
pub mod Sessions
pub mod Woken
