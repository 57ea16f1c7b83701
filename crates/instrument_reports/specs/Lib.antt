-- The public definitions, which public contracts cite.
pub mod Rows
pub mod Answers
pub mod Printing
pub mod Runs
-- The inside: a text and what was kept. No public contract cites it.
pub mod Telling
