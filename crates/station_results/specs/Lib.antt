-- The public definitions, which public contracts and laws cite, in the order in which a reader
-- needs them.
pub mod Residuals
pub mod Greatest
-- The inside.
pub mod Adjusting
