pub mod Chains
pub mod Edges
pub mod Merged
pub mod Points
pub mod Private
