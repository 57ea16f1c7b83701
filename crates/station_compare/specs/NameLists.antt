-- The names of stations, one after the other.
use Rattle.std.specs.Prelude.{ℕ, zero, suc, List, [], ◌++◌, Option, Some, None, codes}
use Rattle.station_book.specs.Stations.{SurveyedStation}

-- what parts the name at a place from the one before
abbrev pub separator : ℕ → List ℕ
separator zero = []
separator (suc place) = codes ", "

-- the name at a place, after what parts it from the one before; nothing where there is none
abbrev pub name_after : ℕ → Option SurveyedStation → List ℕ
name_after place None = []
name_after place (Some s) = separator place ++ s.station.name
