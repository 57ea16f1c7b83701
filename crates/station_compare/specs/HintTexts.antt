-- What is told of a refusal after its line: what its numbers stand for, in the words of the field
-- (profile). A line, or nothing.
use Rattle.std.specs.Prelude.{ℕ, ◌-◌, ◌*◌, ◌/◌, List, [], ◌∷◌, ◌++◌, ◌==◌, if◌then◌else◌, Option}
use Rattle.std.specs.Prelude.{Some, None, codes, decimal, length, take, slice_get, slice_index_or}
use Rattle.std.specs.List.{join_by}
use Rattle.adjust_kernel.specs.Stations.{StationValue}
use Rattle.adjust_kernel.specs.declared.obs.Obs.{Obs}
use Rattle.adjust_kernel.specs.declared.units.TheConstants.{HALF_UNIT, UNIT}
use Rattle.angle_texts.specs.MgonTexts.{thousandths_text}
use Rattle.direction_table.specs.declared.fault.TableFault.TheVariants as table
use Rattle.exact_adjustment.specs.declared.fault.AdjustFault.TheVariants as adjust
use Rattle.station_book.specs.Stations.{SurveyedStation}
use Rattle.station_check.specs.ListNotes.{unchecked_note}
use Rattle.station_compare.specs.declared.fault.CompareFault.{CompareFault}
use Rattle.station_compare.specs.declared.fault.CompareFault.TheVariants.{Table, Adjust}
use Rattle.station_compare.specs.declared.named_stations.TheConstants.{MOST_NAMED}

-- that there are so many more: ` and 1 other`, ` and 54 others`
abbrev pub others_text : ℕ → List ℕ
others_text count =
    if count == 0 then []
    else codes " and " ++ (decimal count
    ++ (if count == 1 then codes " other" else codes " others"))

-- the names of this many stations, the first: `P7, S1`
abbrev pub names_before : ℕ → List SurveyedStation → List ℕ
names_before count stations = join_by (λ s. s.station.name) (codes ", ") (take count stations)

-- the names of the first stations, and how many others there are
abbrev pub names_text : List SurveyedStation → List ℕ
names_text stations =
    names_before MOST_NAMED stations ++ others_text (length stations - MOST_NAMED)

-- Of a name that no station has: which stations the file has, `the file has P7, S1`; of a file
-- without stations the note that its list has, where it has one.
abbrev pub stations_hint : List SurveyedStation → ℕ → List ℕ
stations_hint [] unchecked = unchecked_note unchecked
stations_hint (s ∷ stations) unchecked =
    codes "the file has " ++ (names_text (s ∷ stations) ++ codes "\n")

-- an observation: `set 2, P8`
abbrev pub observed_text : StationValue → Option Obs → List ℕ
observed_text station None = []
observed_text station (Some o) =
    codes "set " ++ (decimal (slice_index_or station.sets o.set 0)
    ++ (codes ", " ++ slice_index_or station.targets o.target []))

-- that the residual of the observation of this number, from 1, is above a limit in half units:
-- `set 2, P8: the greatest residual, above the limit of 3.000 mgon`
abbrev pub residual_hint : StationValue → ℕ → ℕ → List ℕ
residual_hint station residual number =
    observed_text station (slice_get station.obs (number - 1))
    ++ (codes ": the greatest residual, above the limit of "
    ++ (thousandths_text (HALF_UNIT / UNIT * residual) ++ codes " mgon\n"))

-- of a table without the target of this number, from 1: `the table lacks MAST`
abbrev pub missing_hint : StationValue → ℕ → List ℕ
missing_hint station number =
    codes "the table lacks "
    ++ (slice_index_or station.targets (number - 1) [] ++ codes "\n")

-- that the observations don't hold all sets and targets together, and what does
abbrev pub not_connected_hint : List ℕ
not_connected_hint =
    codes "the sets fall into parts without a common target: "
    ++ codes "read a target of one part in a set of another\n"

-- Of a station whose residuals are held to a limit, in half units: which target a table lacks, why
-- the station isn't held together, or which residual is above the limit. Of any other fault nothing.
abbrev pub station_hint : StationValue → ℕ → CompareFault → List ℕ
station_hint station residual (Table (table.Missing number)) = missing_hint station number
station_hint station residual (Adjust adjust.NotConnected) = not_connected_hint
station_hint station residual (Adjust (adjust.Residual number)) =
    residual_hint station residual number
station_hint station residual fault = []
