-- A table that may lack targets of its station, as it is read.
use Rattle.std.specs.Prelude.{◌≡◌, ◌⊎◌, ℕ, ℤ, List, map, Option, Some, None, false}
use Rattle.adjust_kernel.specs.Stations.{StationValue}
use Rattle.direction_table.specs.Tables.{IsFirstMissing, IsPartText}
use Rattle.direction_table.specs.declared.fault.TableFault.{TableFault}
use Rattle.direction_table.specs.declared.fault.TableFault.TheVariants.{Memory, Missing}
use Rattle.direction_table.specs.declared.form.TableForm.{TableForm}
use Rattle.direction_table.specs.declared.reading.PartTable.{PartTable}
use Rattle.direction_table.specs.declared.reading.StatedTable.{StatedTable}
use Rattle.station_book.specs.Stations.{SurveyedStation}
use Rattle.station_differences.specs.Lines.{AreLines}
use Rattle.station_differences.specs.StatedTargets.{IsEnough, is_enough}
use Rattle.station_differences.specs.declared.line.TargetLine.{TargetLine}
use Rattle.table_answers.specs.NearTables.{IsReadAs}
use Rattle.table_answers.specs.OtherUnits.{Agrees}

-- The bytes state enough of the targets, and these are their lines.
pub record AreLinesOf (form : TableForm) (its : SurveyedStation) (bytes : List ℕ)
    (lines : List TargetLine) : Type 0 where
  pub stated : List (Option ℤ)
  pub states : IsPartText form its.station.targets bytes stated
  pub enough : IsEnough stated
  pub are_lines : AreLines its.station stated lines

-- What was read, where no target lacks; or that some do, and enough are stated.
abbrev pub IsWholeOf : PartTable → Option StatedTable → Type 0
IsWholeOf part (Some whole) =
    (part.directions.items ≡ map Some whole.directions.items)
    × (whole.usual_within ≡ part.usual_within) × (whole.most_off ≡ part.most_off)
IsWholeOf part None =
    IsEnough part.directions.items
    × ((directions : List ℤ) → ¬ (part.directions.items ≡ map Some directions))

-- Too few are stated, and this is the first target that is missing; or memory ran out.
abbrev pub IsTooFewOrMemory : List (Option ℤ) → TableFault → Type 0
IsTooFewOrMemory stated fault =
    ((number : ℕ) × (fault ≡ Missing number) × IsFirstMissing stated number
    × (is_enough stated ≡ false))
    ⊎ (fault ≡ Memory)

-- The bytes are read as this table; or they are none of all targets, so that they don't agree.
abbrev pub ReadsAs : TableForm → StationValue → List ℕ → Option StatedTable → Type 0
ReadsAs form station bytes (Some whole) =
    IsReadAs form station bytes whole.directions.items whole.most_off whole.usual_within
ReadsAs form station bytes None = ¬ Agrees form station bytes
