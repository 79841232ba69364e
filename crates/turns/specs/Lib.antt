pub mod Marks
pub mod Hits
pub mod Refusals
pub mod Turns
pub mod Numbers
