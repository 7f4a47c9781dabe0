-- What a bank knows of its blocks: the places of second-level blocks, and a cell for each block that has one.
pub mod Index
pub mod Cells
