-- What stands between the steps: only private contracts and invariants read these.
pub mod Grouping
pub mod Holders
pub mod Progress
pub mod Unused
