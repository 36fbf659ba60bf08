-- The checked trees of what is accepted are sound.
pub mod Lists
pub mod TableSets
pub mod Properties
pub mod LabelSets
pub mod Resolved
pub mod Numbers
pub mod Exprs
pub mod Paths
pub mod Mentions
pub mod Queries
pub mod Changes
pub mod Tables
