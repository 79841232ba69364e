pub mod Pages
pub mod Decimals
pub mod Quotes
pub mod Writing
