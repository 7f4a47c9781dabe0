pub mod Versions
pub mod LineLoop
pub mod Judging
pub mod Cuts
pub mod Plain
pub mod Ranges
pub mod RoundTrip
