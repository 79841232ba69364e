pub mod Gapping
pub mod Wording
pub mod Stepping
pub mod Choosing
pub mod Comparing
pub mod Tallying
