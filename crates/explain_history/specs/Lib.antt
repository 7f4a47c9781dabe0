-- Where records stand in a trace, and which of them touch a block.
pub mod Asked
pub mod BankOrder
pub mod History
pub mod Near
pub mod Places
pub mod Request
pub mod Touching
pub mod Waiting
