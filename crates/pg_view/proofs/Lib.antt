pub mod Growing
pub mod ViewLaws
pub mod HopLaws
pub mod ListsLaws
