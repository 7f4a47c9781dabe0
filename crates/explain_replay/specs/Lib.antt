-- What a rule asks that the first record of a bank that breaks it carries, and what it names.
pub mod Addresses
pub mod Broken
pub mod Carried
pub mod Expected
pub mod Named
pub mod Request
