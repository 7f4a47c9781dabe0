pub mod BusyTags
pub mod PlainSteps
pub mod PlainStart
