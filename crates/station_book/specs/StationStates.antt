-- The stations that have sets.
use Rattle.std.specs.Prelude.{◌≡◌, ℕ, ◌==◌, nat_le, Bool, List, [], ◌∷◌, length, reverse, All}
use Rattle.std.specs.Prelude.{Option, Some, None, false, ⊤}
use Rattle.std.specs.List.{list_any}
use Rattle.std.specs.Map.{values_of}
use Rattle.std.specs.Str.{bytes_eq}
use Rattle.adjust_kernel.specs.declared.bounds.TheConstants.{MOST_SETS}
use Rattle.adjust_kernel.specs.Names.{IsName}
use Rattle.station_book.specs.declared.bounds.TheConstants.{MOST_STATIONS}
use Rattle.station_book.specs.declared.fault.BookKind.{BookKind}
use Rattle.station_book.specs.declared.fault.BookKind.TheVariants as kinds
use Rattle.station_book.specs.Faults.{when}
use Rattle.adjust_kernel.specs.Stations.{station_of}
use Rattle.station_book.specs.Stations.{SurveyedStation}
use Rattle.station_book.specs.StationState.{StationState, begun, closed, MayEnd}

-- what is kept of the stations that have sets, by name: of the newest its state, for blocks add to
-- it; and what the earlier ones gave, the newest of them first
abbrev pub StationStates : Type 0
StationStates = Option ((List ℕ × StationState) × List (List ℕ × SurveyedStation))

-- no station
abbrev pub none_so_far : StationStates
none_so_far = None

-- what a station gives once all its sets are closed
abbrev pub survey_of : List ℕ × StationState → SurveyedStation
survey_of e = record {
  station = station_of e.0 e.1.targets e.1.sets (closed e.1).obs;
  faces = (closed e.1).faces;
}

-- what all give once their sets are closed, by name, the newest first
abbrev pub surveyed_so_far : StationStates → List (List ℕ × SurveyedStation)
surveyed_so_far None = []
surveyed_so_far (Some s) = (s.0.0, survey_of s.0) ∷ s.1

-- how many there are
abbrev pub count_of : StationStates → ℕ
count_of s = length (surveyed_so_far s)

-- what is answered of all, the oldest first
abbrev pub surveys_of : StationStates → List SurveyedStation
surveys_of s = values_of (reverse (surveyed_so_far s))

-- what is answered, by name: each station has the name by which it is found
abbrev pub AreByName : List (List ℕ × SurveyedStation) → Type 0
AreByName es = All (λ e. IsName e.0 × (e.0 ≡ e.1.station.name)) es

-- what is kept of the newest station
abbrev pub last_of : StationStates → StationState
last_of None = begun 0
last_of (Some s) = s.0.1

-- the newest station changed
abbrev pub change_last : (StationState → StationState) → StationStates → StationStates
change_last f None = None
change_last f (Some s) = Some ((s.0.0, f s.0.1), s.1)

-- a station more, with its first set
abbrev pub with_station : List ℕ → ℕ → StationStates → StationStates
with_station name n s = Some ((name, begun n), surveyed_so_far s)

-- one of these stations has this name
abbrev pub is_among : List ℕ → List (List ℕ × SurveyedStation) → Bool
is_among name es = list_any (λ e. bytes_eq name e.0) es

-- a station of this name has sets
abbrev pub is_known : List ℕ → StationStates → Bool
is_known name s = is_among name (surveyed_so_far s)

-- the faults of the first set of a station
abbrev pub first_set_faults : List ℕ → StationStates → List (Option BookKind)
first_set_faults name s =
    when (is_known name s) kinds.StationTwice
    ∷ when (nat_le MOST_STATIONS (count_of s)) kinds.TooManyStations
    ∷ []

-- the faults of a further set of a station
abbrev pub more_set_faults : StationState → ℕ → List (Option BookKind)
more_set_faults e n =
    when (list_any (λ m. m == n) e.sets) kinds.SetTwice
    ∷ when (nat_le MOST_SETS (length e.sets)) kinds.TooManySets
    ∷ []

-- The last set of the newest station may end here.
abbrev pub LastMayEnd : StationStates → Type 0
LastMayEnd None = ⊤
LastMayEnd (Some s) = MayEnd s.0.1

-- The last station, and what the earlier ones gave, the oldest first, as the states of all.
abbrev pub states_of : Option (List ℕ × StationState) → List (List ℕ × SurveyedStation)
    → StationStates
states_of None earlier = None
states_of (Some last) earlier = Some (last, reverse earlier)

-- Earlier stations stand before a last one alone, and it has a name of its own.
abbrev pub IsAfter : Option (List ℕ × StationState) → List (List ℕ × SurveyedStation) → Type 0
IsAfter None earlier = earlier ≡ []
IsAfter (Some last) earlier = is_among last.0 earlier ≡ false
