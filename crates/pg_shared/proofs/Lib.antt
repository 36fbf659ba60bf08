pub mod Growth
pub mod Halves
pub mod Heads
pub mod Items
pub mod Merges
pub mod Places
pub mod Totals
pub mod Walks
