pub mod Widths
pub mod Spaces
pub mod Eights
pub mod Ends
