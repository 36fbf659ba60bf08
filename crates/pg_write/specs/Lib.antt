pub mod ChangePasses
pub mod ChangeVerdict
pub mod ChangeEffects
pub mod JudgedRows
pub mod KeyOfCondition
pub mod HeldRows
