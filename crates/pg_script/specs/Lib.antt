-- Scripts: `Layout`, `Statements`, `After`, `Script`, `Whole`. Transcripts: `Text`, `Judged`, `Session`, `Legal`, `Exact`, `Fitting`. The code: `Passes`.
pub mod Layout
pub mod Statements
pub mod After
pub mod Script
pub mod Whole
pub mod Passes
pub mod Text
pub mod Judged
pub mod Session
pub mod Legal
pub mod Exact
pub mod Fitting
pub mod Generated
