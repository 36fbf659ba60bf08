-- What pg_sql is proved against.
pub mod Answers
pub mod Parsed
pub mod Read
