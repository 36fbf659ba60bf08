-- How evaluation meets the meaning of an expression.
pub mod Aggregation
pub mod Narrowness
pub mod Ones
pub mod Parts
pub mod Properties
mod Trials
