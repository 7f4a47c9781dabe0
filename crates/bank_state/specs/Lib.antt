pub mod Bytes
pub mod Near
pub mod Queues
