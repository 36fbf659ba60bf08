-- Laws about scripts, and how the code meets its contracts.
pub mod Texts
pub mod Passes
pub mod One
pub mod Whole
pub mod Trials
pub mod GeneratedLaws
