pub mod Neighbours
pub mod RowEnds
pub mod Lists
pub mod Sides
pub mod Standing
