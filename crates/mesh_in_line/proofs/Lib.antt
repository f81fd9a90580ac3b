pub mod Following
pub mod Cutting
pub mod Counting
pub mod Ordered
pub mod Legal
pub mod Placed
pub mod Along
pub mod Nearness
