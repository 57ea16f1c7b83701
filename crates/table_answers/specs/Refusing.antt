-- Why a station and a table have no answer. What stands before the table is the same of every answer:
-- the field file, its station, and the table's reader; of the table's bytes each answer says it.
use Rattle.std.specs.Prelude.{◌≡◌, ℕ, List, ℤ, Option, Err, false, ⊤}
use Rattle.adjust_kernel.specs.Stations.{StationValue}
use Rattle.byte_ends.specs.Input.{BrokeOff, Ended, Input, RanPast, input_within}
use Rattle.byte_ends.specs.Source.{Told}
use Rattle.direction_table.specs.Tables.{IsPartText, IsTableFault, IsTableText, stated_in_table}
use Rattle.direction_table.specs.declared.fault.TableFault.TheVariants.{Missing, TooLong}
use Rattle.direction_table.specs.declared.form.TableForm.{TableForm}
use Rattle.direction_table.specs.declared.reading.TheConstants.{LONGEST_TABLE}
use Rattle.exact_adjustment.specs.Faults.{IsAdjustFault}
use Rattle.exact_adjustment.specs.declared.fault.AdjustFault.{AdjustFault}
use Rattle.gsi_file.specs.FileAnswers.{FileAnswers}
use Rattle.least_directions.specs.LeastDirections.{IsAdjustable}
use Rattle.station_book.specs.Stations.{SurveyedStation}
use Rattle.station_book.specs.declared.result_limits.ResultLimits.{ResultLimits}
use Rattle.station_check.specs.Means.{HasNoStation}
use Rattle.station_check.specs.Outcomes.{FileComesTo}
use Rattle.station_check.specs.StationOfFile.{IsStationOfFile}
use Rattle.station_check.specs.declared.fault.Fault.TheVariants.{NoStation}
use Rattle.station_compare.specs.Comparing.{ByTable, IsFaultOrMemory}
use Rattle.station_compare.specs.declared.fault.CompareFault.{CompareFault}
use Rattle.station_compare.specs.declared.fault.CompareFault.TheVariants.{File, Memory, Table}
use Rattle.station_compare.specs.declared.fault.CompareFault.TheVariants.{Adjust, TableRead}
use Rattle.station_differences.specs.StatedTargets.{IsEnough, is_enough}

-- The bytes are a table of a station's directions, and the station can be adjusted.
pub record IsComparable (form : TableForm) (station : StationValue) (bytes : List ℕ) : Type 0 where
  pub directions : List ℤ
  pub states : IsTableText form station.targets bytes directions
  pub adjustable : IsAdjustable station

-- This fault is what the comparison answers of a table's bytes, whatever limit of differences is
-- stated, where residuals are held to this one, in half units. So it never is that the directions
-- are apart.
abbrev pub HasNoAnswerOf : TableForm → StationValue → ℕ → List ℕ → CompareFault → Type 0
HasNoAnswerOf form station residual bytes fault = (within : Option ℕ)
    → ByTable form station residual within bytes (Err fault)

-- The faults of the comparison, one for one, but that the directions are apart is none.
abbrev pub RefusesComparison : TableForm → ResultLimits → SurveyedStation → List ℕ → CompareFault
    → Type 0
RefusesComparison form limits = λ its bytes fault.
    HasNoAnswerOf form its.station limits.residual bytes fault

-- The bytes state enough of a station's targets, and its adjustment has this fault.
pub record IsPartUnadjusted (form : TableForm) (station : StationValue) (residual : ℕ)
    (bytes : List ℕ) (fault : AdjustFault) : Type 0 where
  pub stated : List (Option ℤ)
  pub states : IsPartText form station.targets bytes stated
  pub enough : IsEnough stated
  pub fault_stands : IsAdjustFault station residual fault

-- Why a table has no differences: its first fault, but that a target is missing only where too few
-- are stated; else that of the adjustment.
abbrev pub HasNoDifferences : TableForm → StationValue → ℕ → List ℕ → CompareFault → Type 0
HasNoDifferences form station residual bytes (Table (Missing number)) =
    IsTableFault form station.targets bytes (Missing number)
    × (is_enough (stated_in_table form station.targets bytes) ≡ false)
HasNoDifferences form station residual bytes (Table fault) =
    IsTableFault form station.targets bytes fault
HasNoDifferences form station residual bytes (Adjust fault) =
    IsPartUnadjusted form station residual bytes fault
HasNoDifferences form station residual bytes Memory = ⊤
HasNoDifferences form station residual bytes fault = ⊥

-- The same of a station under these limits.
abbrev pub RefusesDifferences : TableForm → ResultLimits → SurveyedStation → List ℕ → CompareFault
    → Type 0
RefusesDifferences form limits = λ its bytes fault.
    HasNoDifferences form its.station limits.residual bytes fault

-- A fault of the bytes or of the adjustment beside them: none of the field file, and none of the
-- table's reader.
abbrev pub IsOfBytes : CompareFault → Type 0
IsOfBytes (File fault) = ⊥
IsOfBytes TableRead = ⊥
IsOfBytes fault = ⊤

-- Why nothing is answered of what came of the table's reader, by what is refused of its bytes.
abbrev pub RefusesInput : (List ℕ → CompareFault → Type 0) → Input → CompareFault → Type 0
RefusesInput Refuses (Ended bytes) fault = Refuses bytes fault
RefusesInput Refuses (BrokeOff bytes) fault = IsFaultOrMemory (Err fault) TableRead
RefusesInput Refuses RanPast fault = IsFaultOrMemory (Err fault) (Table TooLong)

-- The file has a station of this name, and of what came of the table's reader this is the fault.
pub record IsRefusedBeside (Refuses : SurveyedStation → List ℕ → CompareFault → Type 0)
    (limits : ResultLimits) (file : FileAnswers) (stated : Told) (name : List ℕ)
    (fault : CompareFault) : Type 0 where
  pub its : SurveyedStation
  pub station : IsStationOfFile limits.faces file name its
  pub by_input : RefusesInput (Refuses its) (input_within LONGEST_TABLE stated) fault

-- Why nothing is answered: the first fault that stands, in the order of the file, the station, the
-- table and the adjustment. Where memory runs out, that is no fault of them.
abbrev pub HasNoAnswer : (SurveyedStation → List ℕ → CompareFault → Type 0) → ResultLimits
    → FileAnswers → Told → List ℕ → CompareFault → Type 0
HasNoAnswer Refuses limits file stated name (File NoStation) = HasNoStation limits.faces file name
HasNoAnswer Refuses limits file stated name (File fault) = FileComesTo limits.faces file (Err fault)
HasNoAnswer Refuses limits file stated name Memory = ⊤
HasNoAnswer Refuses limits file stated name fault =
    IsRefusedBeside Refuses limits file stated name fault
