-- For callers: the words of the public contracts and of the laws.
pub mod Join
pub mod Fault
pub mod Laws
pub mod Progress
-- For the contracts of the crate alone: how far the logs have gone, and which of them wait.
pub mod LogSets
pub mod Heads
pub mod Standings
pub mod RunOn
