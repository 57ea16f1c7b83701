-- The public definitions, which public contracts and laws cite, in the order in which a reader
-- needs them.
pub mod Adjustments
pub mod LeastOf
pub mod Exact
pub mod Nearest
pub mod Faults
-- The inside.
pub mod Carrying
pub mod Sides
