-- Which records explain why a trace is not legal, and their text.
pub mod Breach
pub mod Carried
pub mod Explanation
pub mod Field
pub mod Found
pub mod Free
pub mod Limit
pub mod Origins
pub mod Sentence
pub mod State
pub mod Taken
pub mod Text
pub mod Wanted
