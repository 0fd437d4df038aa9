-- What submitters have published, one after the other and together.
pub mod Batches
pub mod GivenBack
pub mod SentTexts
pub mod TogetherSums
