-- What callers read: the signals of a wave, the registers that are held, the times of records, what each record
-- changes, the head, and the file of signals beside it.
pub mod Signals
pub mod Registers
pub mod Times
pub mod Wave
pub mod Head
pub mod Save
pub mod Shapes
