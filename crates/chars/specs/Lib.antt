pub mod Rows
pub mod Ascii
pub mod Under
pub mod Trimmed
