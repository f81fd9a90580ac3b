pub mod JsonLists
pub mod JsonMembers
pub mod Parts
