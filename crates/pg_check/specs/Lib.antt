pub mod Passes
pub mod Scopes
pub mod Gathered
pub mod UsePlaces
pub mod Clashes
pub mod Judgement
pub mod Resolved
pub mod ColumnPlaces
