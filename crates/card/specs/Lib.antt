pub mod Forms
pub mod Written
pub mod Trips
