pub mod Marking
pub mod Naming
pub mod Checking
