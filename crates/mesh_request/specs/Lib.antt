pub mod Errors
pub mod Failures
pub mod Places
pub mod Reading
pub mod Requests
pub mod Texts
pub mod Typed
