-- What callers read: what calls came to, the words of a counted reader or writer, and what is read piece by piece.
pub mod Account
pub mod Counted
pub mod Gathered
