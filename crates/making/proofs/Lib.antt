pub mod Left
pub mod Ahead
pub mod Writing
pub mod Answers
pub mod OneAnswer
