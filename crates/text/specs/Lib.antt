pub mod Laid
pub mod Runs
pub mod Parts
pub mod Walk
pub mod Answers
