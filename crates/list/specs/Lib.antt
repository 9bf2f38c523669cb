pub mod Listing
pub mod Examples
pub mod Listed
pub mod Marked
