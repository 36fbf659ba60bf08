-- What the shortest searches give.
pub mod Selections
pub mod Spots
pub mod Rounds
pub mod Steps
pub mod Visits
pub mod Searches
pub mod Found
pub mod Walks
pub mod Tight
pub mod Rests
pub mod Costs
