-- The public definitions, which public contracts and laws cite.
pub mod LeastDirections
