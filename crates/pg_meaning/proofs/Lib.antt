-- Trials of the definitions on a small graph, and the proofs of laws.
pub mod Social
mod Truths
mod SocialRows
pub mod Patterns
mod SingleWalks
pub mod Shortest
mod Choices
pub mod BindingLaws
pub mod MeaningLaws
pub mod WidthLaws
pub mod ReadLaws
mod GraphTrials
mod PatternTrials
mod JoinTrials
pub mod StandingBindings
pub mod FittingTuples
pub mod BoundTuples
pub mod OneAnswer
