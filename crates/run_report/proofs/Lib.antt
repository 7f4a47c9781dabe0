pub mod CoverLemmas
pub mod ExplainLemmas
