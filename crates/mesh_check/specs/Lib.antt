pub mod Bent
pub mod Clear
pub mod Heights
pub mod Zones
