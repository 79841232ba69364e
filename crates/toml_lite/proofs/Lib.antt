pub mod Keying
pub mod Sizes
pub mod Assigning
pub mod Lining
pub mod Looping
pub mod Clearing
pub mod Reading
