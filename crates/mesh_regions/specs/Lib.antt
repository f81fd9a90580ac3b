pub mod BoundaryLaws
pub mod NearnessLaws
pub mod Regions
pub mod SideLaws
pub mod Star
