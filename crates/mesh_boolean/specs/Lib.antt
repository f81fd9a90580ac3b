pub mod Booleans
pub mod Nearness
pub mod Overlaps
pub mod Private
pub mod Regions
pub mod Rules
pub mod Zones
