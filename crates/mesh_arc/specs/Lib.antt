pub mod Arcs
pub mod Building
pub mod Gaps
pub mod Lent
pub mod Private
