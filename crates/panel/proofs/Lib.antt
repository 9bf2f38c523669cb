mod Outcomes
pub mod OneAnswer
pub mod Refused
