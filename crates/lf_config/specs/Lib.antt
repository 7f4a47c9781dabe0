-- What callers read: the words of the public calls.
pub mod Configuration
pub mod Text
-- What serves the crate's own contracts.
pub mod Key
pub mod Lookup
pub mod Rules
pub mod Unknown
pub mod Told
