pub mod Looks
pub mod Forms
pub mod Checks
pub mod DataCards
pub mod Writes
pub mod OneAnswer
pub mod Trips
