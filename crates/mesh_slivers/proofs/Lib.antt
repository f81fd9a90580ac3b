pub mod Farthest
pub mod Kept
pub mod Rays
pub mod Shapes
pub mod Strips
pub mod Winding
