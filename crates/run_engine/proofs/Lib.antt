pub mod Broken
pub mod GatheringLemmas
pub mod Watches
pub mod JudgingLemmas
pub mod TellingLemmas
pub mod Whole
pub mod Program
