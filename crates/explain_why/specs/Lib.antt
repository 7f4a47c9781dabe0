-- For callers: which records are told of, and each text.
pub mod BrokenBefore
pub mod Cause
pub mod NotComplete
pub mod NotLegal
pub mod Why
-- The logs of a trace that was found legal, and the memory and the records of a trace.
pub mod Logs
pub mod Packing
-- For the contracts of the crate alone: what was taken from a reader.
pub mod Taken
