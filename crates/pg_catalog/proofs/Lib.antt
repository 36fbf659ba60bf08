pub mod NameSets
pub mod Loops
pub mod Agreement
pub mod Growth
pub mod Bits
pub mod EdgeNumbers
pub mod GraphNames
pub mod KindNames
