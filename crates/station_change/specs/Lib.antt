-- The public definitions, which public contracts cite, in the order in which a reader needs them.
pub mod Answers
pub mod Notes
pub mod FaultTexts
pub mod Runs
