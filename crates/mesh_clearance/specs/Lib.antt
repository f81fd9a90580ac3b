pub mod Boxes
pub mod Clearance
