pub mod Clean
pub mod Joining
pub mod Kept
pub mod Pairs
pub mod Paths
pub mod Rounding
pub mod Sharing
