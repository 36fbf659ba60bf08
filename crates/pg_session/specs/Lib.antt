pub mod Stepped
pub mod TurnsJoin
pub mod Legality
