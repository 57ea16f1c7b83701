-- The public definitions, which public contracts and laws cite, in the order in which a reader
-- needs them.
pub mod BestArcs
pub mod Differences
pub mod StatedTargets
pub mod Lines
pub mod Medians
pub mod ByAdjustment
pub mod DifferenceTexts
pub mod JsonLines
pub mod Stating
-- The inside.
pub mod Angles
