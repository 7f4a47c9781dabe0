pub mod Walks
pub mod WalkStart
pub mod Rechecks
