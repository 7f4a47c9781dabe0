pub mod Coming
mod Axis
mod Numbers
pub mod Earliest
pub mod Entries
pub mod Going
pub mod Ordered
