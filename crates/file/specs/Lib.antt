pub mod Files
pub mod Texts
pub mod Reads
pub mod Trips
