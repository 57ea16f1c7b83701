-- The public definitions, which public contracts cite, in the order in which a reader needs them.
pub mod Answers
pub mod LeadsOn
pub mod Notes
pub mod ToldRows
pub mod FaultTexts
pub mod Runs
pub mod OneAnswer
-- The inside: what is kept of a reader. No public contract cites it.
pub mod Giving
