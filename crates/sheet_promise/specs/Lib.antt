pub mod SheetRows
pub mod Readings
pub mod LeastByNames
pub mod Promised
