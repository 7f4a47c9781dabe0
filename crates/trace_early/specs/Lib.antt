-- what a chunk of bytes has at a place, and what the chunks keep
pub mod Kept
-- what a table of numbers has
pub mod Table
pub mod Slots
