-- The lemmas that the proofs of pg_pattern share.
pub mod Turns
pub mod QueryPlaces
