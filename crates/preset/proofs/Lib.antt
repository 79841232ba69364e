pub mod Settling
pub mod Lining
