-- The public definitions, which public contracts and laws cite, in the order in which a reader
-- needs them.
pub mod Limits
pub mod Forms
pub mod Asked
pub mod Statements
pub mod Marked
pub mod Listed
pub mod Placed
pub mod Languages
pub mod Recorded
pub mod TextRecords
pub mod Titled
pub mod Answers
pub mod HandedOut
pub mod Explained
-- The inside: what a text in memory holds. No public contract cites it.
pub mod Texts
