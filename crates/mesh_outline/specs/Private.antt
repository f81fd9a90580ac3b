-- What stands between the steps: only private contracts and invariants read these.
pub mod Gathered
pub mod Given
pub mod Near
pub mod Sections
