-- The points of a trace, how often each was reached, and the text of that.
pub mod Kinds
pub mod Standing
pub mod Sights
pub mod Kept
pub mod Points
pub mod Reachable
pub mod Counted
pub mod Coverage
pub mod Text
pub mod Data
