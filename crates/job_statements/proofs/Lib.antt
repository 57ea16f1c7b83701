pub mod Bare
pub mod NumberLaws
