pub mod Merging
pub mod Growing
