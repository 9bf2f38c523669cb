pub mod Found
pub mod Keyed
pub mod Laid
pub mod Names
pub mod Suits
pub mod OneAnswer
