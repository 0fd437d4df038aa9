-- Lists of signals and of replies.
pub mod Replies
pub mod Signals
