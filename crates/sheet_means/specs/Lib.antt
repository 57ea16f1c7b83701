-- The public definitions, which public contracts and laws cite, in the order in which a reader
-- needs them.
pub mod Complete
pub mod Turning
pub mod Totals
pub mod Means
pub mod FaultNames
-- The inside: the parts of the sheet as the code makes them, one after another. Lemmas join it to
-- the definitions above.
pub mod Parts
