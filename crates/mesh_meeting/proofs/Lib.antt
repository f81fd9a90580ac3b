pub mod Kept
pub mod Nearest
