-- The rows of a station's report, as text in a form (profile).
use Rattle.std.specs.Prelude.{ℕ, ◌*◌, List, [], ◌∷◌, map, codes, decimal}
use Rattle.std.specs.List.{zip}
use Rattle.angle_texts.specs.MgonTexts.{mgon_text, short_mgon_text}
use Rattle.direction_table.specs.Texts.{direction_text}
use Rattle.adjust_kernel.specs.declared.units.TheConstants.{HALF_UNIT}
use Rattle.row_forms.specs.Forms.{number_in, rows_text}
use Rattle.row_forms.specs.declared.form.RowForm.{RowForm}
use Rattle.station_book.specs.Stations.{SurveyedStation}
use Rattle.station_book.specs.declared.faces.Faces.{Faces}
use Rattle.station_report.specs.Readings.{reading_one, reading_two, zenith_mean, zenith_one}
use Rattle.station_report.specs.Readings.{zenith_two}
use Rattle.station_results.specs.declared.adjusted.AdjustedObs.{AdjustedObs}

-- the titles
abbrev pub titles : List (List ℕ)
titles =
    codes "station" ∷ codes "set" ∷ codes "target" ∷ codes "face one" ∷ codes "face two"
    ∷ codes "direction" ∷ codes "2c" ∷ codes "2i" ∷ codes "adjusted" ∷ codes "residual"
    ∷ codes "zenith one" ∷ codes "zenith two" ∷ codes "zenith mean" ∷ []

-- an angle in gon with six decimals, as it was read: of units of 0.00001 gon
abbrev pub read_text : ℕ → List ℕ
read_text units = direction_text 6 (10_000 * units)

-- The row of an observation of a station: the station's name, the number of the set, the name of
-- the target; what was read in face I and in face II, and the two-face direction, in gon; its face
-- differences 2c and 2i in mgon; its adjusted direction in gon, and its residual in mgon; the
-- zenith angles of face I and of face II and their mean, in gon.
abbrev pub row_of : RowForm → List ℕ → AdjustedObs × Faces → List (List ℕ)
row_of form station o =
    station ∷ decimal o.0.set ∷ o.0.target
    ∷ number_in form (read_text (reading_one o.0.value o.1.two_c))
    ∷ number_in form (read_text (reading_two o.0.value o.1.two_c))
    ∷ number_in form (direction_text 6 (HALF_UNIT * o.0.value))
    ∷ number_in form (short_mgon_text o.1.two_c) ∷ number_in form (short_mgon_text o.1.two_i)
    ∷ number_in form (direction_text 6 o.0.adjusted) ∷ number_in form (mgon_text o.0.residual)
    ∷ number_in form (read_text (zenith_one o.1.zenith))
    ∷ number_in form (read_text (zenith_two o.1.zenith o.1.two_i))
    ∷ number_in form (direction_text 6 (HALF_UNIT * zenith_mean o.1.zenith o.1.two_i))
    ∷ []

-- The rows of a station: one for each of its observations, in their order.
abbrev pub rows_of : RowForm → SurveyedStation → List AdjustedObs → List (List (List ℕ))
rows_of form its rows = map (row_of form its.station.name) (zip rows its.faces)

-- The text: the titles, and the rows.
abbrev pub report_rows_text : RowForm → SurveyedStation → List AdjustedObs → List ℕ
report_rows_text form its rows = rows_text form (titles ∷ rows_of form its rows)
