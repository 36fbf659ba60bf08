-- The statements and the order of every script.
pub mod Boundaries
pub mod Counts
pub mod Orders
pub mod Statements
pub mod Waits
