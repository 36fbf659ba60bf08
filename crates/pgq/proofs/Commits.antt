pub mod LongerLog
pub mod RowPuts
pub mod StillReady
pub mod TakenOut
