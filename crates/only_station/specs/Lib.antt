-- The public definitions, which the public contract cites.
pub mod Only
