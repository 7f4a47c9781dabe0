-- What callers read: the words of the public calls.
pub mod Run
pub mod Program
pub mod Needs
pub mod Asks
pub mod Watching
pub mod Line
pub mod Gathered
