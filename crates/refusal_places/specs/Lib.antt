-- The public definitions, in the order in which a reader needs them.
pub mod Numbers
pub mod NamedPlaces
pub mod Lines
pub mod Rows
pub mod Kinds
pub mod Meant
pub mod MeantParts
pub mod Places
pub mod PlaceTexts
-- The inside: which rows are left to be found.
pub mod RowsLeft
