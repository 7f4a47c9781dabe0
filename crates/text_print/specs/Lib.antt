-- The text of each line of a trace.
pub mod Text
