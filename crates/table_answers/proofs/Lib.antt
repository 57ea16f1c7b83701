pub mod Given
pub mod AnswerLaws
pub mod ComparisonRuns
pub mod Told
pub mod OtherUnits
pub mod OneNote
pub mod ComparedBy
pub mod PartTables
