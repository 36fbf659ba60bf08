-- The automaton of a path pattern, and what walking it means.
pub mod Stages
pub mod Autos
pub mod Counts
pub mod States
pub mod Tests
pub mod Successors
pub mod Ranks
pub mod Allowed
pub mod Steps
pub mod Ways
pub mod Once
