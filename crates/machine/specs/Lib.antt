pub mod Lent
pub mod Stated
pub mod Fives
pub mod Allowed
