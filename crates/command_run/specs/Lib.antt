-- The public definitions, which public contracts and laws cite, in the order in which a reader
-- needs them.
pub mod AsKnown
pub mod Hosts
pub mod Unopened
pub mod StationNames
pub mod NewFiles
pub mod Explaining
pub mod Answering
