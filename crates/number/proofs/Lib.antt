mod Taken
mod Units
mod Guesses
mod Newton
mod Arriving
mod Aligning
mod Sizes
pub mod OneAnswer
