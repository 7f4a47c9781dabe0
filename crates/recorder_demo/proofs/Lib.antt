pub mod Coming
pub mod Joined
