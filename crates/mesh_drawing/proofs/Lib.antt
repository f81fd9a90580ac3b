pub mod Firsts
pub mod NearSmall
pub mod PathsServed
pub mod Ranges
pub mod Refusals
