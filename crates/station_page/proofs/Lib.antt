mod FieldTexts
mod Comparisons
mod Made
pub mod NamedFaults
