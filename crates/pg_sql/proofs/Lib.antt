-- The lemmas that the proofs of pg_sql share.
pub mod Turns
pub mod PartLaws
pub mod TableLaws
pub mod GraphLaws
pub mod ChangeLaws
pub mod BodyLaws
pub mod StatementLaws
pub mod Lexed
