pub mod Chains
pub mod Counting
pub mod Merging
pub mod Numbers
