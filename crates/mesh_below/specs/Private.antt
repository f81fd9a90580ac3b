-- What stands between the steps: only private contracts and invariants read these.
pub mod ConvexRings
pub mod OverlayAnswers
pub mod Resolving
pub mod Rings
