-- The public definitions, which public contracts and laws cite, in the order in which a reader
-- needs them.
pub mod Table
pub mod Naming
pub mod Explaining
