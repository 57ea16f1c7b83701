pub mod Cells
pub mod RowsLeft
pub mod Tried
pub mod OfRow
