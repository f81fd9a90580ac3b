pub mod Joins
pub mod Reach
