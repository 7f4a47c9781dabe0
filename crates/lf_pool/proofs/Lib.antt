pub mod Records
pub mod Places
pub mod Totals
pub mod Steps
pub mod Work
pub mod Joined
pub mod Placing
pub mod Ending
