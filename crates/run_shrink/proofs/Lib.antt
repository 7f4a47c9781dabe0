pub mod Faults
pub mod Larger
pub mod Masks
pub mod Told
