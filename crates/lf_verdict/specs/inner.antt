-- What only the contracts of the crate's own functions and their proofs use. No file beside this folder names a file in
-- it.
pub mod Fed
pub mod Coming
pub mod Counting
pub mod Noting
pub mod Taking
pub mod Turns
pub mod Ending
pub mod Judged
pub mod Jobs
pub mod Gathering
pub mod Shares
pub mod Workers
pub mod Ahead
