pub mod Reading
pub mod Requests
pub mod Typed
