-- The public definitions, which public contracts cite.
pub mod Limits
