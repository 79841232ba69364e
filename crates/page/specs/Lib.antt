pub mod Page
pub mod Runs
