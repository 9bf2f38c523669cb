pub mod Held
pub mod Blocks
