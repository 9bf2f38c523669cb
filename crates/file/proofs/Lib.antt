pub mod Files
pub mod Numbers
pub mod Scans
pub mod Wholes
pub mod Trips
pub mod OneAnswer
