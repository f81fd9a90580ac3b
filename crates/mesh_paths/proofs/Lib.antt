pub mod Along
pub mod Collecting
pub mod Cuts
pub mod Filing
pub mod Merged
pub mod Onward
pub mod Starting
