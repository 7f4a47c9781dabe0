-- The lines of records, and what stands beside them.
pub mod Marks
pub mod Lines
-- What the lines of a map tell, which map is refused, and the text of that.
pub mod Stamp
pub mod Map
pub mod Text
-- For the contracts of the crate alone: what the parts of reading a map give.
pub mod Steps
