-- The text of a fault, as the line of a refusal has it: where it is, its name, and what it carries
-- (profile).
use Rattle.std.specs.Prelude.{ℕ, List, Some, [], ◌++◌, codes}
use Rattle.direction_table.specs.declared.fault.TableFault.TheVariants as table
use Rattle.exact_adjustment.specs.declared.fault.AdjustFault.TheVariants as adjust
use Rattle.station_check.specs.FaultTexts.{numbered_place, place_text, number_text, carried_text}
use Rattle.station_compare.specs.AgreementTexts.{how_far_text}
use Rattle.station_compare.specs.FaultNames.{compare_fault_name}
use Rattle.station_compare.specs.declared.fault.CompareFault.{CompareFault}
use Rattle.station_compare.specs.declared.fault.CompareFault.TheVariants.{File, TableRead, Table}
use Rattle.station_compare.specs.declared.fault.CompareFault.TheVariants.{Adjust, Apart}

-- Where a fault is: as the check has it, in a row of this number, or in a whole part of the
-- comparison. A fault that is nowhere in it has no such text.
abbrev pub compare_place_text : CompareFault → List ℕ
compare_place_text (File fault) = place_text fault
compare_place_text TableRead = codes "table: "
compare_place_text (Table table.TooLong) = codes "table: "
compare_place_text (Table (table.Columns first second)) = codes "table: "
compare_place_text (Table (table.Row number _)) = numbered_place (codes "table row ") number
compare_place_text (Table (table.Missing target)) = codes "table: "
compare_place_text (Adjust fault) = codes "adjust: "
compare_place_text (Apart how_far) = codes "compare: "
compare_place_text fault = []

-- What a fault carries.
abbrev pub compare_carried_text : CompareFault → List ℕ
compare_carried_text (File fault) = carried_text fault
compare_carried_text (Table (table.Columns first second)) =
    number_text (Some first) ++ number_text (Some second)
compare_carried_text (Table (table.Missing target)) = number_text (Some target)
compare_carried_text (Adjust (adjust.Residual number)) = number_text (Some number)
compare_carried_text (Apart how_far) = codes " " ++ how_far_text how_far
compare_carried_text fault = []

-- What is refused, and why.
abbrev pub compare_fault_text : CompareFault → List ℕ
compare_fault_text fault =
    compare_place_text fault ++ compare_fault_name fault ++ compare_carried_text fault

-- The line of a refusal.
abbrev pub refusal_line : CompareFault → List ℕ
refusal_line fault = codes "refused: " ++ compare_fault_text fault ++ codes "\n"
