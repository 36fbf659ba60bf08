mod Preimages
mod Selections
mod Lengths
mod Starting
mod Agreeing
mod Places
mod Joins
mod Variables
mod Results
mod Lookups
mod Steps
mod BoundRows
pub mod Crossing
pub mod Jobs
