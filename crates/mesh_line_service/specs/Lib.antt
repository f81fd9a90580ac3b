pub mod Arguments
pub mod Endings
pub mod Held
pub mod Lines
pub mod Private
pub mod Replies
