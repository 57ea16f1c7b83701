-- The public definitions, which public contracts cite, in the order in which a reader needs them.
pub mod Notes
pub mod Stated
