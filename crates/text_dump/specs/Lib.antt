-- What callers read: the text of the bytes of a trace, what a choice takes of it, and what a dump reads, answers and
-- writes.
pub mod Lines
pub mod Chosen
pub mod Printing
pub mod Dump
pub mod Choosing
