pub mod Boxes
pub mod Laws
pub mod Pairs
pub mod Private
