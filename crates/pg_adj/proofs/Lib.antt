pub mod Sorting
pub mod Gathering
pub mod Halves
