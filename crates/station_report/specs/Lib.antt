-- The public definitions, which public contracts and laws cite, in the order in which a reader
-- needs them.
pub mod Readings
pub mod FaceMeans
pub mod Deviations
pub mod Columns
pub mod Zeniths
pub mod GapTexts
pub mod NoteTexts
pub mod ReportTexts
pub mod Stating
-- The inside.
pub mod Factors
pub mod Fronts
pub mod Together
pub mod ZenithSums
pub mod Small
pub mod Computing
