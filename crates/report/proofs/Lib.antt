pub mod Briefly
pub mod Lining
pub mod Listing
