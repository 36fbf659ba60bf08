pub mod Rooms
pub mod Numbers
