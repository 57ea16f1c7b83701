-- The faults of the parts as faults of a comparison.
use Rattle.byte_ends.specs.declared.input.InputFault.{InputFault}
use Rattle.byte_ends.specs.declared.input.InputFault.TheVariants as input
use Rattle.direction_table.specs.declared.fault.TableFault.{TableFault}
use Rattle.direction_table.specs.declared.fault.TableFault.TheVariants as table
use Rattle.exact_adjustment.specs.declared.fault.AdjustError.{AdjustError}
use Rattle.exact_adjustment.specs.declared.fault.AdjustError.TheVariants as adjust
use Rattle.station_check.specs.declared.fault.Fault.{Fault}
use Rattle.station_check.specs.declared.fault.Fault.TheVariants as file
use Rattle.station_compare.specs.declared.fault.CompareFault.{CompareFault}
use Rattle.station_compare.specs.declared.fault.CompareFault.TheVariants.{File, TableRead, Table}
use Rattle.station_compare.specs.declared.fault.CompareFault.TheVariants.{Adjust, Memory}

-- a fault of the field file, as a fault of the comparison
abbrev pub of_file : Fault → CompareFault
of_file file.Memory = Memory
of_file fault = File fault

-- a fault of the table's input, before its bytes are read as rows
abbrev pub of_input : InputFault → CompareFault
of_input input.Read = TableRead
of_input input.TooLong = Table table.TooLong
of_input input.Memory = Memory

-- a fault of the table's rows
abbrev pub of_table : TableFault → CompareFault
of_table table.Memory = Memory
of_table fault = Table fault

-- why the station has no least-squares directions
abbrev pub of_adjust : AdjustError → CompareFault
of_adjust (adjust.Fault fault) = Adjust fault
of_adjust adjust.Memory = Memory
