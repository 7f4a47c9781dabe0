mod BrokenSoFar
mod Records
mod Waits
mod Incomplete
mod SoFar
pub mod Split
mod Taken
mod Within
