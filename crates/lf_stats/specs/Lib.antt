-- For callers: the counts of a trace and their text.
pub mod Statistics
pub mod Answer
pub mod Text
-- For callers that count while the records come: what was counted.
pub mod Tally
-- For the contracts of the crate alone: what is held between two records.
pub mod Standing
