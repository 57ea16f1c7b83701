-- What is listed is what the file recorded: `laws::recorded`, `listed_once`, `no_reading_lost`,
-- `one_file_fault`.
pub mod PairReadings
pub mod Recorded
pub mod ListedOnce
pub mod WholeFile
pub mod SomeObservation
