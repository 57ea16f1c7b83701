-- The public definitions, which public contracts and laws cite, in the order in which a reader
-- needs them.
pub mod Numbers
pub mod Versions
pub mod RowTypes
pub mod Columns
pub mod Rows
pub mod RowFaults
pub mod Faults
pub mod FaultNames
pub mod Texts
-- The inside: which errors of `csv` may come, how the code keeps a number, and a sheet whose rows
-- are still being read. Lemmas join it to the definitions above.
pub mod Errors
pub mod Numerals
pub mod Drafts
