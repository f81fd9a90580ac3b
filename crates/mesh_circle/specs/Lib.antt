pub mod Private
pub mod Sections
pub mod Sweeps
pub mod Tangents
