-- The public definitions, which public contracts and laws cite, in the order in which a reader
-- needs them.
pub mod Arcs
pub mod Apart
pub mod Rounding
-- The inside.
pub mod Bounded
