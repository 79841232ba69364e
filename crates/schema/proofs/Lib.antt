pub mod Wording
pub mod Spelling
