pub mod Ahead
pub mod Arranged
pub mod Counting
pub mod Farthest
