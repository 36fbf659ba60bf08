pub mod Aggregates
pub mod Conditions
pub mod Evaluable
pub mod Mentions
pub mod Operands
pub mod References
