pub mod Halves
pub mod Lengths
pub mod Roots
pub mod Small
