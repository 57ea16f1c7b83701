-- The public definitions, which public contracts cite, in the order in which a reader needs them.
pub mod RowTexts
pub mod Listing
pub mod Runs
-- The inside.
pub mod RowPieces
