pub mod AllClear
pub mod Private
