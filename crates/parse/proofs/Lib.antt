pub mod Fielding
pub mod Filing
pub mod Fronting
pub mod Composing
pub mod Applying
pub mod Entering
pub mod Judging
pub mod Opening
