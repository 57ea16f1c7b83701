-- The public definitions, which public contracts and laws cite, in the order in which a reader
-- needs them.
pub mod Sections
pub mod Stating
pub mod Values
