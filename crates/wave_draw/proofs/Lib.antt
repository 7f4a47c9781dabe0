pub mod Pieces
pub mod Splitting
pub mod Telling
pub mod Turns
pub mod Viewed
pub mod Waiting
pub mod Yes
