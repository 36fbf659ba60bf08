-- The proofs of laws, and trials of the rules.
pub mod SoundShapes
pub mod ChangeLaws
pub mod QueryLaws
pub mod ResolveLaws
pub mod QueryTrials
mod ChangeTrials
mod SoundTrials
pub mod KeptSound
pub mod Accepted
pub mod Written
mod AcceptedTrials
