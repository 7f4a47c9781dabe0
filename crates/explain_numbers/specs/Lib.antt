-- Which records tell why the numbers of a trace give no order, and their text.
pub mod Cycle
pub mod Numbered
pub mod Reason
pub mod Text
