pub mod NameSets
pub mod PropertyRows
pub mod GraphLookUps
pub mod PropertyNames
pub mod PropertyKinds
