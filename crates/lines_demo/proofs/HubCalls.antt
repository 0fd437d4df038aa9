-- What the calls of a script's publisher do to its subscriptions, and what they answer.
pub mod Closes
pub mod EachMaps
pub mod Looks
pub mod OfferedEntries
pub mod OfferedLists
pub mod Offers
pub mod RepliedTexts
pub mod Submits
