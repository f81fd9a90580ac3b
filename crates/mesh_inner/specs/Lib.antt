pub mod Formula
pub mod Inner
pub mod Private
pub mod Room
pub mod Told
