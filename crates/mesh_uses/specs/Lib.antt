pub mod Fills
pub mod Grown
pub mod Nets
pub mod Styles
pub mod Tracks
