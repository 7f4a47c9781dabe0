-- Which text is due for each thing that can be asked here.
pub mod Cover
pub mod Explain
pub mod Headline
pub mod Json
