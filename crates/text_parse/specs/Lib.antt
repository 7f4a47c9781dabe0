-- How a line of the text is read, and what was written into it.
pub mod Words
pub mod Fields
pub mod Events
pub mod Lines
pub mod Defaults
pub mod Text
