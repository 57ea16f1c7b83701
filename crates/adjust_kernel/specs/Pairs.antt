-- A station and a sheet, taken together row by row.
use Rattle.std.specs.Prelude.{◌≡◌, List, [], ◌∷◌, ℤ, All, length, map}
use Rattle.adjust_kernel.specs.declared.obs.Obs.{Obs}
use Rattle.adjust_kernel.specs.declared.row.Row.{Row}
use Rattle.adjust_kernel.specs.TurnedObservations.{TurnedObservation}
use Rattle.adjust_kernel.specs.Residuals.{Choice, choice_of}
use Rattle.adjust_kernel.specs.Sheets.{SheetValue}
use Rattle.adjust_kernel.specs.Stations.{IsObs}

-- The directions and orientations that a sheet states, over its denominator.
abbrev pub choice_stated_by : SheetValue → Choice
choice_stated_by sheet =
    choice_of sheet.denominator (map (λ d. d.value) sheet.directions)
    (map (λ o. o.value) sheet.orientations)

-- An observation, with the full turns that the sheet's row adds to it.
abbrev pub turned_by : Obs → ℤ → TurnedObservation
turned_by o turn = record { set = o.set; target = o.target; value = o.value; turn = turn }

-- The observations of a station, each with the full turns of the sheet's row at the same place.
abbrev pub turned_by_rows : List Obs → List Row → List TurnedObservation
turned_by_rows [] rows = []
turned_by_rows (o ∷ obs) [] = []
turned_by_rows (o ∷ obs) (r ∷ rows) = turned_by o r.turn ∷ turned_by_rows obs rows

-- Each observation is of one of the sheet's sets and one of its targets, and there are as many rows
-- as observations.
pub record ArePaired (sheet : SheetValue) (obs : List Obs) : Type 0 where
  pub obs_in : All (IsObs (length sheet.orientations) (length sheet.directions)) obs
  pub same_length : length obs ≡ length sheet.rows
