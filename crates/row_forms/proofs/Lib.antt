pub mod TextRows
pub mod FieldLengths
pub mod TurnedBytes
