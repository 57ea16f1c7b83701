-- The names of faults, as the line of a refusal has them (profile).
use Rattle.std.specs.Prelude.{ℕ, List, codes}
use Rattle.direction_table.specs.FaultNames.{table_fault_name}
use Rattle.exact_adjustment.specs.declared.fault.AdjustFault.{AdjustFault}
use Rattle.exact_adjustment.specs.declared.fault.AdjustFault.TheVariants as adjust
use Rattle.station_check.specs.FaultNames.{fault_name}
use Rattle.station_compare.specs.declared.fault.CompareFault.{CompareFault}
use Rattle.station_compare.specs.declared.fault.CompareFault.TheVariants.{File, TableRead, Table}
use Rattle.station_compare.specs.declared.fault.CompareFault.TheVariants.{Adjust, Apart, Write}
use Rattle.station_compare.specs.declared.fault.CompareFault.TheVariants.{Memory}

-- The name of why a station has no adjustment.
abbrev pub adjust_fault_name : AdjustFault → List ℕ
adjust_fault_name adjust.NotConnected = codes "NotConnected"
adjust_fault_name (adjust.Residual number) = codes "Residual"
adjust_fault_name adjust.NotFound = codes "NotFound"

-- The name of a fault: where a lower part has found it, the name that it has there.
abbrev pub compare_fault_name : CompareFault → List ℕ
compare_fault_name (File fault) = fault_name fault
compare_fault_name TableRead = codes "Read"
compare_fault_name (Table fault) = table_fault_name fault
compare_fault_name (Adjust fault) = adjust_fault_name fault
compare_fault_name (Apart how_far) = codes "Apart"
compare_fault_name Write = codes "write failed"
compare_fault_name Memory = codes "out of memory"
