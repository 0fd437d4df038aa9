-- A publication and an offer, from the looks to the answer.
pub mod AllSubscriptions
pub mod AnsweredOffer
pub mod Backlogs
pub mod FullBuffers
pub mod OneSubscription
pub mod OneText
pub mod SecondTries
pub mod WholeOffer
pub mod WholePublication
