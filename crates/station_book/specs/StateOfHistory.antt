-- What is kept of the stations, and where the book stands, by the blocks before: station by
-- station, from the sets and the readings that are the station's.
use Rattle.std.specs.Prelude.{◌≡◌, ℕ, true, false, List, [], ◌∷◌, ◌++◌, length, filter, map, Option}
use Rattle.std.specs.Prelude.{Some, None, ⊤}
use Rattle.std.specs.Option.{option_map}
use Rattle.adjust_kernel.specs.declared.obs.Obs.{Obs}
use Rattle.station_book.specs.declared.face.Face.TheVariants.{One, Two}
use Rattle.station_book.specs.declared.faces.Faces.{Faces}
use Rattle.station_book.specs.TwoFaces.{Angles}
use Rattle.station_book.specs.declared.slot.Slot.{Slot}
use Rattle.station_book.specs.declared.stage.Stage.{Stage}
use Rattle.station_book.specs.declared.stage.Stage.TheVariants.{Outside, Station, BetweenSets}
use Rattle.station_book.specs.declared.stage.Stage.TheVariants.{InSet}
use Rattle.station_book.specs.Slots.{obs_of, faces_of}
use Rattle.station_book.specs.StationState.{StationState}
use Rattle.station_book.specs.StationStates.{StationStates}
use Rattle.station_book.specs.Places.{History, Place, number_at, before, opening, station, is_same}
use Rattle.station_book.specs.Places.{is_empty, is_open, sets_of, station_readings, first_sets}
use Rattle.station_book.specs.Places.{distinct, reading_in, target_at}
use Rattle.station_book.specs.Stations.{SurveyedStation}
use Rattle.station_book.specs.Faults.{open_sets, name_at, angles_at}

-- the angles at a place, where there is one
abbrev pub angles_of : Option Place → Option Angles
angles_of o = option_map angles_at o

-- the angles of a target's readings, among these
abbrev pub slot_of : List Place → List ℕ → Slot
slot_of rs name = record {
  one = angles_of (reading_in One name rs);
  two = angles_of (reading_in Two name rs);
}

-- the slots of these targets, in their order
abbrev pub slots_of : List (List ℕ) → List Place → List Slot
slots_of targets rs = map (slot_of rs) targets

-- the names of the targets of these readings, in the order of their first
abbrev pub targets_in : List Place → List (List ℕ)
targets_in readings = distinct (map target_at readings)

-- those of a station's readings that are of this set
abbrev pub in_set : Place → List Place → List Place
in_set set rs = filter (λ r. is_same (opening (before r)) set) rs

-- the observations of these sets, which come the newest first; the places of the sets are counted
-- from the oldest
abbrev pub obs_in : List (List ℕ) → List Place → List Place → List Obs
obs_in targets readings [] = []
obs_in targets readings (s ∷ older) = obs_in targets readings older ++ obs_of (length older)
    (slots_of targets (in_set s readings))

-- the face differences of these sets, beside their observations
abbrev pub faces_in : List (List ℕ) → List Place → List Place → List Faces
faces_in targets readings [] = []
faces_in targets readings (s ∷ older) = faces_in targets readings older ++ faces_of
    (slots_of targets (in_set s readings))

-- the numbers of these sets, the oldest first
abbrev pub numbers_in : List Place → List (Option ℕ)
numbers_in [] = []
numbers_in (s ∷ older) = numbers_in older ++ number_at s ∷ []

-- what is kept of a station that has these sets, at least one, and these readings, the newest first
pub record IsStateOf (st newest : Place) (older readings : List Place) (name : List ℕ)
    (e : StationState) : Type 0 where
  pub named_so : name_at st ≡ Some name
  pub targets : e.targets ≡ targets_in readings
  pub numbers : map (λ n. Some n) e.sets ≡ numbers_in (newest ∷ older)
  pub slots : e.slots ≡ slots_of (targets_in readings) (in_set newest readings)
  pub obs : e.obs ≡ obs_in (targets_in readings) readings older
  pub faces : e.faces ≡ faces_in (targets_in readings) readings older

-- the same of these sets, the newest first; a station without sets is not kept
abbrev pub IsStateWith : Place → List Place → List Place → List ℕ × StationState → Type 0
IsStateWith st [] readings e = ⊥
IsStateWith st (s ∷ older) readings e = IsStateOf st s older readings e.0 e.1

-- what is kept of the station that this block with code 10 opens
abbrev pub IsStateAt : History → Place → List ℕ × StationState → Type 0
IsStateAt h st e = IsStateWith st (sets_of st h) (station_readings st h) e

-- the stations that have sets, the newest first
abbrev pub stations_in : History → List Place
stations_in h = map (λ s. station (before s)) (first_sets h)

-- what will be answered of a station that has these sets and readings, the newest first
pub record IsComputed (st : Place) (sets readings : List Place) (s : SurveyedStation) : Type 0 where
  pub named_so : name_at st ≡ Some s.station.name
  pub targets : s.station.targets ≡ targets_in readings
  pub numbers : map (λ n. Some n) s.station.sets ≡ numbers_in sets
  pub obs : s.station.obs ≡ obs_in (targets_in readings) readings sets
  pub faces : s.faces ≡ faces_in (targets_in readings) readings sets

-- what is kept, by its name, of an earlier station that this block with code 10 opened
pub record IsEarlierAt (h : History) (st : Place) (e : List ℕ × SurveyedStation) : Type 0 where
  pub named_so : name_at st ≡ Some e.0
  pub computed : IsComputed st (sets_of st h) (station_readings st h) e.1

-- Each earlier station that has sets is kept; both lists come the newest first.
abbrev pub AreEarlier : History → List Place → List (List ℕ × SurveyedStation) → Type 0
AreEarlier h [] [] = ⊤
AreEarlier h [] (e ∷ es) = ⊥
AreEarlier h (st ∷ sts) [] = ⊥
AreEarlier h (st ∷ sts) (e ∷ es) = IsEarlierAt h st e × AreEarlier h sts es

-- Each station that has sets is kept; the list comes the newest first.
abbrev pub AreStates : History → List Place → StationStates → Type 0
AreStates h [] None = ⊤
AreStates h [] (Some s) = ⊥
AreStates h (st ∷ sts) None = ⊥
AreStates h (st ∷ sts) (Some s) = IsStateAt h st s.0 × AreEarlier h sts s.1

-- where the book stands in the file
abbrev pub IsStage : Stage → History → Type 0
IsStage Outside h = (station h ≡ []) × (is_open h ≡ false)
IsStage (Station name) h = (is_empty (station h) ≡ false) × (name_at (station h) ≡ Some name)
    × (open_sets h ≡ []) × (is_open h ≡ false)
IsStage BetweenSets h = (is_empty (open_sets h) ≡ false) × (is_open h ≡ false)
IsStage InSet h = is_open h ≡ true
