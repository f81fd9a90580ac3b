pub mod Nets
pub mod Private
