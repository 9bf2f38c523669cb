pub mod Rows
pub mod Keys
pub mod Slots
pub mod Suits
