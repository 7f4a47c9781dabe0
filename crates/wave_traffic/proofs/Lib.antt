pub mod Queues
pub mod Dirty
pub mod Stores
pub mod Wide
pub mod Rules
pub mod Standing
