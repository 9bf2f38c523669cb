pub mod Going
pub mod New
pub mod Rooms
pub mod Made
