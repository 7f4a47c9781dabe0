mod Bounds
mod Latest
