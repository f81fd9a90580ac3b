pub mod Feet
pub mod JoinPoints
pub mod Lists
pub mod Pieces
pub mod Rounded
pub mod Within
