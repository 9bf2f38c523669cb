pub mod Letters
pub mod OneAnswer
pub mod Taken
