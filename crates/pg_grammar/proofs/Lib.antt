-- The lemmas that the proofs of pg_grammar share.
pub mod Turns
pub mod LabelSteps
pub mod ExprSteps
pub mod Numbers
pub mod Nesting
pub mod LabelLimits
pub mod ExprLimits
pub mod ExprCounts
