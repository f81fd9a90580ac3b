pub mod Boxes
pub mod Exact
pub mod ExactPairs
pub mod Near
pub mod Refused
pub mod Zones
