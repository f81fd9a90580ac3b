pub mod Contours
pub mod KeptClear
pub mod Points
