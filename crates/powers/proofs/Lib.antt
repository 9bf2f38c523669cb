pub mod Powers
pub mod OneAnswer
