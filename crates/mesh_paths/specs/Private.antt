-- What stands between the steps: only private contracts and invariants read these.
pub mod Cutting
pub mod Merging
