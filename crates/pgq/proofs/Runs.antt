pub mod NoAfter
pub mod OneStatement
pub mod Runnable
pub mod Sections
pub mod SteppedRuns
pub mod Turns
