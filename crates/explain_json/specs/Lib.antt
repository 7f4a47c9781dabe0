-- What an answer in JSON says.
pub mod Answer
