-- What callers read: the records in an order, the wave of the bytes of a trace, and what is read and what goes out.
pub mod Laws
pub mod Ordering
pub mod Turns
pub mod Viewing
