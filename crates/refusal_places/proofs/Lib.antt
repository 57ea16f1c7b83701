pub mod LineWalks
pub mod RowWalks
pub mod FirstFields
pub mod NamedNumbers
pub mod MeantWords
