pub mod Shown
pub mod Said
