pub mod AnswerLists
pub mod PartialRounds
pub mod Publications
pub mod BatchTexts
pub mod Soundness
pub mod Subscribed
