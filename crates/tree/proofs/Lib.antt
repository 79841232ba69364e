pub mod Cells
pub mod Walks
pub mod Ranking
pub mod Opening
pub mod Skipping
pub mod Stepping
