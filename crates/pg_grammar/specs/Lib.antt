-- What pg_grammar is proved against, and what the crates above it build on.
pub mod Numbers
pub mod Kit
pub mod Laws
pub mod Read
