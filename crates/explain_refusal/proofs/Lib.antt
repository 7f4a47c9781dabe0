pub mod Grouped
pub mod Numbers
pub mod Cuts
