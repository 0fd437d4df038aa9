pub mod Count
pub mod Tickets
pub mod Opening
pub mod Ticket
pub mod Spent
