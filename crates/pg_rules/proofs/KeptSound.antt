-- An accepted definition keeps a catalog sound.
pub mod EmptyPlaces
pub mod Lists
pub mod Columns
pub mod SoundTables
pub mod SoundElements
pub mod SoundEnds
pub mod OneKind
pub mod SoundGraphs
pub mod AddedTables
