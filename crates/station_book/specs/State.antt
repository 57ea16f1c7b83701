-- What a book keeps, and what each kind of block does to it.
use Rattle.std.specs.Prelude.{ℕ, ◌+◌, Bool, true, false, if◌then◌else◌, Result, Ok, Err, List}
use Rattle.std.specs.Prelude.{Option, Some, None, ◌<◌, ⊤}
use Rattle.station_book.specs.declared.fault.BookKind.{BookKind}
use Rattle.station_book.specs.declared.fault.BookKind.TheVariants as kinds
use Rattle.station_book.specs.Limits.{FaceLimits}
use Rattle.station_book.specs.declared.angles.Reading.{Reading}
use Rattle.station_book.specs.declared.stage.Stage.{Stage}
use Rattle.station_book.specs.declared.stage.Stage.TheVariants.{Outside, Station, BetweenSets}
use Rattle.station_book.specs.declared.stage.Stage.TheVariants.{InSet}
use Rattle.station_book.specs.Faults.{first_of, twice_informed, station_faults}
use Rattle.gsi_word.specs.Blocks.{GsiBlock}
use Rattle.station_book.specs.declared.role.Role.{Role}
use Rattle.station_book.specs.declared.role.Role.TheVariants.{Station as AsStation, Set, Close}
use Rattle.station_book.specs.declared.role.Role.TheVariants.{Measurement, Other}
use Rattle.station_book.specs.Blocks.{role_of, named, number}
use Rattle.station_book.specs.Readings.{read}
use Rattle.station_book.specs.Slots.{closing_faults}
use Rattle.station_book.specs.StationState.{with_set, state_faults, with_reading}
use Rattle.station_book.specs.StationStates.{StationStates, last_of, LastMayEnd, change_last}
use Rattle.station_book.specs.StationStates.{with_station, first_set_faults, more_set_faults}
use Rattle.station_book.specs.StationStates.{count_of}

-- what a book keeps: its limits, how many blocks it took, where it stands, and its stations with
-- sets
pub record State : Type 0 where
  pub limits : FaceLimits
  pub taken : ℕ
  pub stage : Stage
  pub stations : StationStates

-- the first of two that stands
abbrev pub then_fault : {X : Type 0} → Option X → Option X → Option X
then_fault None o = o
then_fault (Some x) o = Some x

-- a set is open
abbrev pub has_open_set : Stage → Bool
has_open_set Outside = false
has_open_set (Station name) = false
has_open_set BetweenSets = false
has_open_set InSet = true

-- the fault of the end of a set, where one is open
abbrev pub ending : Stage → StationStates → Option BookKind
ending Outside so_far = None
ending (Station name) so_far = None
ending BetweenSets so_far = None
ending InSet so_far = first_of (closing_faults (last_of so_far).slots)

-- the fault of a set that opens here
abbrev pub opening_fault : Stage → StationStates → Option ℕ → Option BookKind
opening_fault Outside so_far n = Some kinds.SetOutside
opening_fault (Station name) so_far None = Some kinds.SetNumber
opening_fault (Station name) so_far (Some n) = first_of (first_set_faults name so_far)
opening_fault BetweenSets so_far None = Some kinds.SetNumber
opening_fault BetweenSets so_far (Some n) = first_of (more_set_faults (last_of so_far) n)
opening_fault InSet so_far None = Some kinds.SetNumber
opening_fault InSet so_far (Some n) = first_of (more_set_faults (last_of so_far) n)

-- the stations after a set of this number
abbrev pub opened : Stage → Option ℕ → StationStates → StationStates
opened stage None so_far = so_far
opened Outside (Some n) so_far = so_far
opened (Station name) (Some n) so_far = with_station name n so_far
opened BetweenSets (Some n) so_far = change_last (with_set n) so_far
opened InSet (Some n) so_far = change_last (with_set n) so_far

-- after a block of code 10 with this name
abbrev pub at_station : Option (List ℕ) → Stage → Stage
at_station None stage = stage
at_station (Some name) stage = Station name

-- after a closing code
abbrev pub closed_stage : Stage → Stage
closed_stage Outside = Outside
closed_stage (Station name) = Station name
closed_stage BetweenSets = BetweenSets
closed_stage InSet = BetweenSets

-- the fault of a measurement that says this, in an open set
abbrev pub measured : FaceLimits → StationStates → Result (Option Reading) BookKind
    → Option BookKind
measured limits so_far (Err k) = Some k
measured limits so_far (Ok None) = None
measured limits so_far (Ok (Some s)) = first_of (state_faults limits (last_of so_far) s)

-- the stations after a measurement that says this, in an open set
abbrev pub with_measured : Result (Option Reading) BookKind → StationStates → StationStates
with_measured (Err k) so_far = so_far
with_measured (Ok None) so_far = so_far
with_measured (Ok (Some s)) so_far = change_last (with_reading s) so_far

-- the fault of a block of code 10: it ends the set that is open, and has to name its station
abbrev pub station_fault_of : State → GsiBlock → Option BookKind
station_fault_of k b = then_fault (ending k.stage k.stations) (first_of (station_faults b))

-- the fault of a block of code 20: it ends the set that is open, has its number once, and opens a
-- set of this number
abbrev pub set_fault_of : State → GsiBlock → Option BookKind
set_fault_of k b = then_fault (ending k.stage k.stations)
    (then_fault (twice_informed b) (opening_fault k.stage k.stations (number b)))

-- the fault of a measurement, which has one in an open set alone
abbrev pub measurement_fault_of : State → GsiBlock → Option BookKind
measurement_fault_of k b =
    if has_open_set k.stage then measured k.limits k.stations (read b) else None

-- the fault of a block with this role
abbrev pub fault_as : Role → State → GsiBlock → Option BookKind
fault_as AsStation k b = station_fault_of k b
fault_as Set k b = set_fault_of k b
fault_as Close k b = ending k.stage k.stations
fault_as Measurement k b = measurement_fault_of k b
fault_as Other k b = None

-- the fault of a block
abbrev pub fault_of : State → GsiBlock → Option BookKind
fault_of k b = fault_as (role_of b) k b

-- what is kept after a block with this role
abbrev pub after_as : Role → GsiBlock → State → State
after_as AsStation b k = record k { stage = at_station (named b) k.stage }
after_as Set b k = record k { stage = InSet; stations = opened k.stage (number b) k.stations }
after_as Close b k = record k { stage = closed_stage k.stage }
after_as Measurement b k = record
    k { stations = if has_open_set k.stage then with_measured (read b) k.stations else k.stations }
after_as Other b k = k

-- what is kept after a block
abbrev pub after : GsiBlock → State → State
after b k = after_as (role_of b) b (record k { taken = k.taken + 1 })

-- Where the open station has a set, there is a station.
abbrev pub HasLast : Stage → StationStates → Type 0
HasLast Outside s = ⊤
HasLast (Station name) s = ⊤
HasLast BetweenSets s = 0 < count_of s
HasLast InSet s = 0 < count_of s

-- Where no set is open, the last one may end.
abbrev pub RestMayEnd : Stage → StationStates → Type 0
RestMayEnd Outside s = LastMayEnd s
RestMayEnd (Station name) s = LastMayEnd s
RestMayEnd BetweenSets s = LastMayEnd s
RestMayEnd InSet s = ⊤

-- what always holds of a book's stage and stations
pub record IsBook (stage : Stage) (s : StationStates) : Type 0 where
  pub has_last : HasLast stage s
  pub rest : RestMayEnd stage s
