-- For callers: what a job is, what its outcome says, and how many workers there may be.
pub mod Job
pub mod Workers
-- For the contracts of the crate alone: the rule of the claims, and what a worker gives.
pub mod Rule
pub mod Worked
