pub mod Inbox
pub mod Queue
