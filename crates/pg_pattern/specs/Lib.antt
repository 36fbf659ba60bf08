-- What pg_pattern is proved against.
pub mod Answers
pub mod Laws
pub mod Read
