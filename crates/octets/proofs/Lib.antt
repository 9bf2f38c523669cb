pub mod Splices
pub mod Widths
pub mod Copies
pub mod Joins
pub mod Digits
pub mod OneAnswer
