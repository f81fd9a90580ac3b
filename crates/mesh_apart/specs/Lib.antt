pub mod Apart
pub mod Joined
pub mod Joins
pub mod Laws
