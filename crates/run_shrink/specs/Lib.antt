-- What a search for a smaller trace answers.
pub mod Broken
pub mod Candidate
pub mod Shrunk
pub mod Text
pub mod Told
pub mod Wanted
