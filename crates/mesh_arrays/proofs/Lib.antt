pub mod Adding
pub mod Clearances
pub mod EndToEnd
pub mod GivenShapes
pub mod NetClearances
pub mod Reaches
pub mod Readings
pub mod RoomLists
