-- What callers read: the records in an order, and the order of a no.
pub mod OrderTo
pub mod Times
pub mod Ordered
-- For the contracts of the crate: the records that are left.
pub mod Left
