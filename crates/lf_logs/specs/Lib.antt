-- For callers: the words of the public contracts and of the laws.
pub mod Lists
pub mod Tags
pub mod Incomplete
pub mod Places
pub mod Reordering
pub mod Mixtures
-- For the contracts of the crate alone: how it counts, and how it keeps what came early
-- and records in the form of their bytes.
pub mod Tallies
pub mod EarlyRecords
pub mod PackedLogs
