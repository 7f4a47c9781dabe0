mod Digits
mod Fields
