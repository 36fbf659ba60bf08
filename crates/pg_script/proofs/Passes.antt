-- How the passes of `split` meet their contracts.
pub mod Lines
pub mod SectionLines
pub mod Sections
pub mod Turns
pub mod Parts
pub mod Items
pub mod Drafts
pub mod Inputs
pub mod Atoms
pub mod Spans
pub mod After
