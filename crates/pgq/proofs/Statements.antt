pub mod Definitions
pub mod Changes
pub mod Outcomes
pub mod Queries
