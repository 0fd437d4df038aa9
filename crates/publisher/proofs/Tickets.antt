-- Who holds the tickets of the count, and that none is left once the last was spent.
pub mod Admitted
pub mod Compared
pub mod Ticketed
