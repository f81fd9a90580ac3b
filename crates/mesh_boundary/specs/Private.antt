-- What stands between the steps: only private contracts and invariants read these.
pub mod CountedSides
pub mod Flood
pub mod Rounds
pub mod Slants
pub mod Stars
pub mod Sums
pub mod SideFinders
