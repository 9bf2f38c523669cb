pub mod Cells
pub mod Begins
pub mod Runs
mod FitDrum
pub mod OneAnswer
