pub mod Core
pub mod Powers
pub mod Versions
pub mod State
