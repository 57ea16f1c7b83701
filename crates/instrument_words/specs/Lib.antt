-- The public definitions, which public contracts cite.
pub mod Instrument
pub mod Texts
pub mod Below
pub mod Rereading
-- The inside: how what is told grows. No public contract cites it.
pub mod Onto
