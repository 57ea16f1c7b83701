-- What always holds of what a book keeps, and what the code does to it.
pub mod SlotObservations
pub mod ClosedSets
pub mod StationInvariant
pub mod TargetMaps
pub mod NewestState
pub mod BookInvariant
