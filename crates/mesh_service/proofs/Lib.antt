pub mod Combinations
pub mod JsonLists
pub mod Reasons
pub mod Replies
pub mod Requested
pub mod ToldDistances
