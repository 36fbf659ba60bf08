-- What a search gives.
pub mod Chains
pub mod Puts
pub mod Hops
pub mod Found
pub mod Checked
pub mod Numbers
pub mod Steps
pub mod Rounds
pub mod Seen
pub mod Searches
