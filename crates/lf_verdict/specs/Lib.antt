-- What a verdict means, its text, and the laws.
pub mod Legal
pub mod Parts
pub mod Outcome
pub mod Verdict
pub mod Incomplete
pub mod Configured
pub mod Breaking
pub mod Statistics
pub mod Final
pub mod Named
pub mod Laws
pub mod ConfiguredLaws
pub mod Collected
pub mod Text
-- What is seen of a session, what it answers, and how its parts stand.
pub mod Seen
pub mod Session
pub mod Conclusion
pub mod Standing
-- What no public contract needs.
pub mod inner
