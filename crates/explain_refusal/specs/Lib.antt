-- The text of a refusal: the bytes, the field that fails, and what is allowed.
pub mod Format
pub mod Header
pub mod Config
pub mod Finding
pub mod Field
pub mod Allowed
pub mod Part
pub mod Stop
pub mod Keys
pub mod Lines
pub mod Bytes
