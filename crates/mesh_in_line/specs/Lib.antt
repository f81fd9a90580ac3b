pub mod InLine
pub mod Laws
pub mod Private
