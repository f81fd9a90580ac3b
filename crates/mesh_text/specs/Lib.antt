pub mod Replies
pub mod Whys
