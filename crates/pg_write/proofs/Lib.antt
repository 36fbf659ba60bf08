mod Columns
mod Loops
pub mod HeldLaws
pub mod Missing
pub mod VerdictLaws
pub mod TargetLaws
pub mod KeyLaws
pub mod JudgedLaws
pub mod ProposedLaws
pub mod TakenLaws
pub mod CheckedLaws
pub mod ApplyLaws
pub mod FittingLaws
