pub mod Counted
pub mod Answers
pub mod Fields
pub mod Wholes
pub mod OneAnswer
