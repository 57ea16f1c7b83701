-- The public definitions, which public contracts cite, in the order in which a reader needs them.
pub mod Titles
pub mod TitledInput
pub mod Faults
pub mod FaultTexts
