pub mod Adding
pub mod Combining
pub mod Meeting
pub mod Near
pub mod Overlapping
pub mod Ranges
pub mod Told
pub mod ZoneEdges
