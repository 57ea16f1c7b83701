-- A sheet matches a station where it says of the station just what was observed, place by place.
use Rattle.std.specs.Prelude.{◌≡◌, ℕ, pos, List, [], map, slice_index_or}
use Rattle.adjust_kernel.specs.declared.obs.Obs.{Obs}
use Rattle.adjust_kernel.specs.declared.row.Row.{Row}
use Rattle.adjust_kernel.specs.Pairs.{choice_stated_by}
use Rattle.adjust_kernel.specs.Sheets.{SheetValue}
use Rattle.adjust_kernel.specs.Stations.{StationValue}

-- What a row of a sheet and an observation of a station have to agree in: the number of the set,
-- the name of the target, and the direction.
pub record Key : Type 0 where
  pub set : ℕ
  pub target : List ℕ
  pub value : ℕ

-- The key of a row.
abbrev pub key_of_row : Row → Key
key_of_row r = record { set = r.set; target = r.target; value = r.value }

-- The key of an observation, by the station's numbers of sets and names of targets.
abbrev pub key_of_obs : List ℕ → List (List ℕ) → Obs → Key
key_of_obs sets targets o = record {
  set = slice_index_or sets o.set 0;
  target = slice_index_or targets o.target [];
  value = o.value;
}

-- The names of the targets, as the sheet has them.
abbrev pub names_of : SheetValue → List (List ℕ)
names_of sheet = map (λ d. d.name) sheet.directions

-- The numbers of the sets, as the sheet has them.
abbrev pub numbers_of : SheetValue → List ℕ
numbers_of sheet = map (λ o. o.set) sheet.orientations

-- What the rows of the sheet say was observed.
abbrev pub keys_of : SheetValue → List Key
keys_of sheet = map key_of_row sheet.rows

-- What was observed.
abbrev pub observed : StationValue → List Key
observed station = map (key_of_obs station.sets station.targets) station.obs

-- The sheet is of this station (profile): it has the station's name, and its lists of targets, of
-- sets and of observations equal the station's, so that nothing is missing, added, moved or
-- altered; and the first direction is 0.
pub record Matches (station : StationValue) (sheet : SheetValue) : Type 0 where
  pub name : sheet.name ≡ station.name
  pub targets : names_of sheet ≡ station.targets
  pub sets : numbers_of sheet ≡ station.sets
  pub rows : keys_of sheet ≡ observed station
  pub datum : (choice_stated_by sheet).direction 0 ≡ pos 0
