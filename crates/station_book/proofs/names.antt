-- The names of stations: `laws::different_names`, `its_station`.
pub mod FirstOfName
pub mod StationNames
