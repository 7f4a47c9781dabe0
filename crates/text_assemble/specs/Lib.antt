-- What callers read: what a text gives, and the texts of faults. The draft is the crate's own.
pub mod Assembly
pub mod Text
pub mod Refusal
pub mod Draft
