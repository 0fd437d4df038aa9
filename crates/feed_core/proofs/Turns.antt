-- What a turn tells and leaves, by what its callbacks come back with: whole, plain, cut short, stopped, failed or at
-- rest.
pub mod Cut
pub mod Failed
pub mod Greeted
pub mod Greetings
pub mod Looks
pub mod Loop
pub mod Plain
pub mod PlainAnswers
pub mod Replied
pub mod Resting
pub mod Steady
pub mod Stopped
pub mod StoppedLooks
pub mod Whole
