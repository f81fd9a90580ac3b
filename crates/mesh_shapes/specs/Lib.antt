pub mod Contours
pub mod Homes
pub mod Private
pub mod Resolution
pub mod Vectors
