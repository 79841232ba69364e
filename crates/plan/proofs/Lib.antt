pub mod Walking
pub mod Choosing
pub mod Composing
pub mod Targeting
pub mod Building
pub mod Stemming
pub mod Judging
