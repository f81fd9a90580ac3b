pub mod Filed
pub mod Made
pub mod Paths
pub mod Pieces
pub mod Private
pub mod Stops
