-- What the grammar gives of the trees of statements.
pub mod Rules
pub mod Exprs
pub mod Statements
