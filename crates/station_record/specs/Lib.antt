-- The public definitions, which public contracts cite.
pub mod Recorded
pub mod Rows
-- The inside.
pub mod Parts
pub mod Made
