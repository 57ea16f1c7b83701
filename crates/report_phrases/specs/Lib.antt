-- The public definitions.
pub mod Phrases
