-- What callers read: the words of the public calls.
pub mod RegisterFile
pub mod Faults
pub mod Alike
pub mod Names
-- What serves the crate's own contracts.
pub mod Bounds
pub mod Places
pub mod Index
