pub mod Lines
pub mod Rooms
pub mod Sentences
pub mod Examples
