pub mod Rooms
pub mod Sendings
pub mod OneRoom
pub mod MadeSheets
