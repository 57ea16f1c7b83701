-- The list of a field file's stations, as text (profile).
use Rattle.std.specs.Prelude.{ℕ, List, ◌++◌, length, codes, decimal}
use Rattle.std.specs.Fmt.{signed_decimal}
use Rattle.std.specs.List.{flat_map, zip}
use Rattle.adjust_kernel.specs.Matching.{Key, observed}
use Rattle.adjust_kernel.specs.Stations.{StationValue}
use Rattle.station_book.specs.declared.faces.Faces.{Faces}
use Rattle.station_book.specs.Stations.{SurveyedStation}

-- the line of a station: how many sets, targets and directions it has
unfoldable pub station_line : StationValue → List ℕ
station_line s =
    codes "station " ++ s.name ++ codes ": " ++ decimal (length s.sets) ++ codes " sets, "
    ++ decimal (length s.targets) ++ codes " targets, "
    ++ decimal (length s.obs) ++ codes " directions\n"

-- what was observed: the number of the set, the name of the target, and the direction
abbrev pub key_text : Key → List ℕ
key_text k =
    codes "set " ++ decimal k.set ++ codes ", target " ++ k.target
    ++ codes ": p " ++ decimal k.value

-- the face differences, and the end of the line
abbrev pub faces_text : Faces → List ℕ
faces_text f =
    (codes ", 2c " ++ signed_decimal f.two_c)
    ++ (codes ", 2i " ++ signed_decimal f.two_i) ++ codes "\n"

-- the line of an observation
unfoldable pub observation_line : Key → Faces → List ℕ
observation_line k f = key_text k ++ faces_text f

-- the lines of a station
abbrev pub surveyed_text : SurveyedStation → List ℕ
surveyed_text s =
    station_line s.station
    ++ flat_map (λ o. observation_line o.0 o.1) (zip (observed s.station) s.faces)

-- the list: the lines of each station
abbrev pub list_text : List SurveyedStation → List ℕ
list_text stations = flat_map surveyed_text stations
