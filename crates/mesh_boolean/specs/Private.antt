-- What stands between the steps: only private contracts read these.
pub mod Given
pub mod Meeting
pub mod PairsSoFar
pub mod Steps
