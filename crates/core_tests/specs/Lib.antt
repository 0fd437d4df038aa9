pub mod Letters
pub mod Row
