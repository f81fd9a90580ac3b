-- What private contracts alone read.
pub mod Ends
pub mod Limits
pub mod Walks
