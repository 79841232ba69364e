pub mod Parts
pub mod Layouts
