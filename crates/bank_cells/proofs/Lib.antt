pub mod Placed
pub mod Words
pub mod Added
pub mod Found
pub mod Wider
pub mod Entries
pub mod TwoParts
