pub mod Bounds
pub mod Laws
pub mod Order
pub mod Plane
pub mod Rounding
pub mod Signs
pub mod Turning
pub mod Winding
