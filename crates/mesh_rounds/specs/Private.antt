-- What stands between the steps: only private contracts and invariants read these.
pub mod Groups
pub mod Rounds
