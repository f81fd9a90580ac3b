pub mod BoundingBoxes
pub mod Cells
pub mod Steps
pub mod Witnesses
