pub mod Combining
pub mod Exactness
pub mod Nearness
pub mod Operands
pub mod Refusals
