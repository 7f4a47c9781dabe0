-- What the plain machine answers to the order of a yes.
pub mod Rechecked
