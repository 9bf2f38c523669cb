pub mod Joins
pub mod Lengths
pub mod Endings
pub mod CellLines
pub mod Answers
pub mod Examples
pub mod OneAnswer
