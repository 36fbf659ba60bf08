pub mod Entries
pub mod EndOrder
pub mod Groups
pub mod Gather
pub mod Adjacency
