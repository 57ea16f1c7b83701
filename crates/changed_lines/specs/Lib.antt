-- The public definitions, in the order in which a reader needs them.
pub mod Renaming
pub mod ChangedFile
pub mod Answers
pub mod FaultNames
pub mod Sayings
pub mod Stated
pub mod Order
-- The inside: what the code finds on the way.
pub mod FirstLines
pub mod Steps
