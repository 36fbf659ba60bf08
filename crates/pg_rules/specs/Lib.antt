-- What a catalog holds, and the rules of definitions, changes and queries.
pub mod Accepted
pub mod ExprFaults
pub mod Places
pub mod Resolving
pub mod Catalog
pub mod Changes
pub mod Definitions
pub mod Queries
pub mod Written
