pub mod Keeping
pub mod Slots
pub mod Standing
pub mod Tables
pub mod Widening
