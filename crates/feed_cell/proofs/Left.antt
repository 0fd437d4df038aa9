-- What is left of a subscription that is closed for good.
pub mod Causes
pub mod ClosedTable
pub mod JoinWalk
pub mod Lane
pub mod OneSeat
pub mod Text
