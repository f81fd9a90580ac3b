pub mod Clear
mod Counts
mod Crossings
mod Turns
pub mod Windings
