pub mod Marking
mod Placed
mod Adding
mod Keys
mod Numbers
mod Words
