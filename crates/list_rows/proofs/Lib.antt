pub mod RowLaws
pub mod CellLaws
pub mod NumberLaws
