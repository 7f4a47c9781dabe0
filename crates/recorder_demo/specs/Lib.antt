-- What callers read: the words of the public calls.
pub mod Demo
-- What serves the crate's own contracts.
pub mod Places
pub mod Threads
