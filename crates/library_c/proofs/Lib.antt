pub mod Fed
pub mod Values
