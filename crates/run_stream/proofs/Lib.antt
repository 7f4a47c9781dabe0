pub mod GatheringLemmas
pub mod OutputLemmas
