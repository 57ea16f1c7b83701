-- The public definitions, which public contracts and laws cite, in the order in which a reader
-- needs them.
pub mod LimitInForce
pub mod Agreeing
pub mod Comparing
pub mod Answers
pub mod OneAnswer
pub mod Faults
pub mod FaultNames
pub mod AgreementTexts
pub mod FaultTexts
pub mod HintTexts
pub mod Refusals
pub mod Hints
pub mod Runs
-- The inside.
pub mod NameLists
