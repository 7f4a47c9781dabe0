-- What callers read: what goes between the levels of each bank after some records, and the laws.
pub mod Flow
pub mod Laws
