pub mod Gaps
pub mod Reading
pub mod Pieces
pub mod Ordered
