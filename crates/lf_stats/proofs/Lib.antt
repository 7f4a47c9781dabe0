mod Distinct
mod Holds
pub mod Orders
pub mod Blocks
mod Waits
pub mod Sizes
pub mod Pushed
pub mod Lines
pub mod Queues
pub mod Tallied
pub mod Accepting
pub mod Complete
mod Examples
