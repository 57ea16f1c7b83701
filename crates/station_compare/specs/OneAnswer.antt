-- Which answers may stand in the place of another.
use Rattle.std.specs.Prelude.{◌≡◌, ℕ, List, ℤ, Result, Ok, Err, ⊤}
use Rattle.byte_ends.specs.Input.{Ended, input_within}
use Rattle.byte_ends.specs.Source.{Told}
use Rattle.direction_table.specs.Tables.{IsTableText}
use Rattle.direction_table.specs.declared.reading.TheConstants.{LONGEST_TABLE}
use Rattle.exact_adjustment.specs.Faults.{IsOfStation}
use Rattle.exact_adjustment.specs.LeastOf.{AreTied}
use Rattle.gsi_file.specs.FileAnswers.{FileAnswers}
use Rattle.station_book.specs.declared.result_limits.ResultLimits.{ResultLimits}
use Rattle.station_book.specs.Stations.{SurveyedStation}
use Rattle.station_check.specs.StationOfFile.{IsStationOfFile}
use Rattle.station_compare.specs.declared.fault.CompareFault.{CompareFault}
use Rattle.station_compare.specs.declared.fault.CompareFault.TheVariants.{Adjust, Memory}
use Rattle.direction_table.specs.declared.form.TableForm.{TableForm}

-- The answer is of the input alone: not that memory ran out, nor that no adjustment was found.
abbrev pub IsSettled : {A : Type 0} → Result A CompareFault → Type 0
IsSettled (Ok a) = ⊤
IsSettled (Err (Adjust fault)) = IsOfStation fault
IsSettled (Err Memory) = ⊥
IsSettled (Err fault) = ⊤

-- The answer is not that memory ran out.
abbrev pub IsNoMemory : {A : Type 0} → Result A CompareFault → Type 0
IsNoMemory (Err Memory) = ⊥
IsNoMemory result = ⊤

-- All before the adjustment is without fault: the file has a station of this name, whose
-- observations hold all sets and targets together, and the bytes are a table of its directions.
pub record IsUpToAdjustment (form : TableForm) (limits : ResultLimits) (file : FileAnswers)
    (stated : Told)
    (name : List ℕ) : Type 0 where
  pub its : SurveyedStation
  pub station : IsStationOfFile limits.faces file name its
  pub tied : AreTied its.station
  pub bytes : List ℕ
  pub whole : input_within LONGEST_TABLE stated ≡ Ended bytes
  pub directions : List ℤ
  pub states : IsTableText form its.station.targets bytes directions
