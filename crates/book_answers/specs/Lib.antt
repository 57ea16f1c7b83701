-- The public definitions, which public contracts cite, in the order in which a reader needs them.
pub mod Together
pub mod Refusals
pub mod Answers
pub mod Runs
pub mod Columns
pub mod Notes
pub mod PartTexts
pub mod Tables
-- The inside.
pub mod OfStations
pub mod TableTexts
