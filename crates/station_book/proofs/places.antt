-- What a block does to what is looked up in the blocks before it, and the places of a file.
pub mod Owners
pub mod Steps
pub mod StationSets
pub mod FilePlaces
