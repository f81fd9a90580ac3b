-- What stands in the tree and between the steps: only private contracts and invariants read these.
pub mod Growth
pub mod Lines
pub mod Trees
