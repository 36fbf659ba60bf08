-- Fronts, cuts and joins of texts.
pub mod Front
pub mod Cuts
pub mod Blanks
pub mod Joined
