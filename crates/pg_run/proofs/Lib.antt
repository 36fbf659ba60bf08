pub mod Growing
pub mod CutLaws
pub mod EndsLaws
pub mod Halves
