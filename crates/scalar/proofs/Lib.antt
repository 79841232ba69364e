pub mod Integers
pub mod Decoding
pub mod Speaking
pub mod Segmenting
pub mod Splitting
pub mod Numbering
pub mod Keying
