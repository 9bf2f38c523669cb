pub mod Put
pub mod Longer
