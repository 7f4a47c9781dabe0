-- For callers: what a trace uses at most, and its text.
pub mod Changes
pub mod Usage
pub mod Text
-- For the contracts of the crate alone: what is held between two records.
pub mod Standing
