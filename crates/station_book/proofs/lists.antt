-- What holds of lists, and of maps by name.
pub mod Elements
pub mod JoinedLists
pub mod NamePlaces
pub mod NameMaps
