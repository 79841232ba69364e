pub mod Fronting
pub mod Pairing
pub mod Entering
pub mod Using
pub mod Settling
pub mod Gathering
pub mod Placing
pub mod Judging
