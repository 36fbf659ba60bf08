-- Which queries are answered, and how their answers are made.
pub mod Selecting
pub mod Ends
pub mod Joining
pub mod Tuples
pub mod Rows
pub mod Starts
