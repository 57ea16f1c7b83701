-- The rows of a list of stations, as text in a form (profile).
use Rattle.std.specs.Prelude.{ℕ, ◌*◌, List, [], ◌∷◌, map, codes, decimal}
use Rattle.std.specs.List.{flat_map, zip}
use Rattle.adjust_kernel.specs.Matching.{Key, observed}
use Rattle.angle_texts.specs.MgonTexts.{short_mgon_text}
use Rattle.direction_table.specs.Texts.{direction_text}
use Rattle.adjust_kernel.specs.declared.units.TheConstants.{HALF_UNIT}
use Rattle.row_forms.specs.Forms.{number_in, rows_text}
use Rattle.row_forms.specs.declared.form.RowForm.{RowForm}
use Rattle.station_book.specs.declared.faces.Faces.{Faces}
use Rattle.station_book.specs.Stations.{SurveyedStation}

-- the titles
abbrev pub titles : List (List ℕ)
titles =
    codes "station" ∷ codes "set" ∷ codes "target" ∷ codes "direction" ∷ codes "2c" ∷ codes "2i" ∷
    []

-- The row of an observation of a station: the station's name, the number of the set, the name of
-- the target, the two-face direction in gon with six decimals, and its face differences 2c and 2i
-- in mgon with two.
abbrev pub row_of : RowForm → List ℕ → Key × Faces → List (List ℕ)
row_of form station o =
    station ∷ decimal o.0.set ∷ o.0.target
    ∷ number_in form (direction_text 6 (HALF_UNIT * o.0.value))
    ∷ number_in form (short_mgon_text o.1.two_c)
    ∷ number_in form (short_mgon_text o.1.two_i) ∷ []

-- The rows of a station: one for each of its observations, in their order.
abbrev pub rows_of : RowForm → SurveyedStation → List (List (List ℕ))
rows_of form s = map (row_of form s.station.name) (zip (observed s.station) s.faces)

-- The text: the titles, and the rows of the stations, in their order.
abbrev pub stations_text : RowForm → List SurveyedStation → List ℕ
stations_text form stations = rows_text form (titles ∷ flat_map (rows_of form) stations)
