pub mod Says
pub mod Lengths
pub mod Counted
pub mod Examples
pub mod OneAnswer
