-- Why the expressions and the change of the tests are sound, and runs put on tables.
pub mod Folding
pub mod Literals
pub mod SoundInsert
