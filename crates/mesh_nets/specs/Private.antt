-- What stands between the steps: only private contracts read these.
pub mod Outlines
pub mod PairsSoFar
