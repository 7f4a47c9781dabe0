-- What callers read: the words of the public calls.
pub mod Desk
pub mod Closing
-- The rule that each step keeps; of its words callers read `fence_of` and `IsAbove`.
pub mod Rule
