pub mod Ints
pub mod Stores
pub mod Decodes
pub mod Segments
pub mod Splits
