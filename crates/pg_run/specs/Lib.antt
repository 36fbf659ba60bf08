pub mod Runs
pub mod Cuts
pub mod Laws
pub mod Kept
