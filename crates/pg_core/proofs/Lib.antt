pub mod Lengths
pub mod Runs
pub mod Good
pub mod Seen
pub mod Replays
pub mod Telling
