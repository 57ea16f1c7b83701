pub mod Rows
pub mod Carried
pub mod Leading
pub mod Counts
pub mod Editions
pub mod SomeSets
