-- What callers read: the words of the public calls.
pub mod LineTable
pub mod Refusals
pub mod SetsView
-- What serves the crate's own contracts.
pub mod CleanMasks
pub mod Rows
pub mod WayKeys
pub mod WayWords
