-- The unit in which a table agrees with its station, where it is apart as it is read: a forgotten
-- `--dmmss` or `--degrees`, or one too many.
use Rattle.std.specs.Prelude.{◌≡◌, ◌⊎◌, ◌≤◌, ℕ, List, [], ◌++◌, codes, Option, Some, None}
use Rattle.adjust_kernel.specs.Stations.{StationValue}
use Rattle.direction_table.specs.declared.form.TableForm.{TableForm}
use Rattle.direction_table.specs.declared.unit.AngleUnit.{AngleUnit}
use Rattle.direction_table.specs.declared.unit.AngleUnit.TheVariants.{Gon, Degrees, PackedDegrees}
use Rattle.station_compare.specs.Comparing.{IsComparedWith}
use Rattle.station_compare.specs.LimitInForce.{limit_in_force}

-- Bytes are a table that agrees with its station, by its usual limit, read in this form.
abbrev pub Agrees : TableForm → StationValue → List ℕ → Type 0
Agrees form station bytes =
    (apart : ℕ) × IsComparedWith form station bytes apart
    × (apart ≤ limit_in_force form None station.targets bytes)

-- the form with the same columns, in this unit
abbrev pub read_in : TableForm → AngleUnit → TableForm
read_in form unit = record { unit = unit; columns = form.columns }

-- It agrees in this unit.
abbrev pub AgreesIn : TableForm → StationValue → List ℕ → AngleUnit → Type 0
AgreesIn form station bytes unit = Agrees (read_in form unit) station bytes

-- This is the first of gon, degrees and D.MMSS in which it agrees, or it agrees in none.
abbrev pub IsFirstUnit : TableForm → StationValue → List ℕ → Option AngleUnit → Type 0
IsFirstUnit form station bytes (Some Gon) = AgreesIn form station bytes Gon
IsFirstUnit form station bytes (Some Degrees) =
    ¬ AgreesIn form station bytes Gon × AgreesIn form station bytes Degrees
IsFirstUnit form station bytes (Some PackedDegrees) =
    ¬ AgreesIn form station bytes Gon × ¬ AgreesIn form station bytes Degrees
    × AgreesIn form station bytes PackedDegrees
IsFirstUnit form station bytes None = (unit : AngleUnit) → ¬ AgreesIn form station bytes unit

-- The unit that is named: none where the table agrees as it is read, else the first in which it
-- agrees.
abbrev pub IsOtherUnit : TableForm → StationValue → List ℕ → Option AngleUnit → Type 0
IsOtherUnit form station bytes other =
    (Agrees form station bytes × (other ≡ None))
    ⊎ (¬ Agrees form station bytes × IsFirstUnit form station bytes other)

-- How each of these lines ends.
abbrev pub agreeing : List ℕ
agreeing = codes ", the table agrees within its usual limit\n"

-- The line that names it.
abbrev pub unit_note : Option AngleUnit → List ℕ
unit_note None = []
unit_note (Some Gon) =
    codes "note: read as gon, with neither --degrees nor --dmmss" ++ agreeing
unit_note (Some Degrees) = codes "note: read as degrees, with --degrees" ++ agreeing
unit_note (Some PackedDegrees) = codes "note: read as D.MMSS, with --dmmss" ++ agreeing
