-- The names of faults, as the line of a refusal has them (profile).
use Rattle.std.specs.Prelude.{ℕ, List, codes}
use Rattle.gsi_file.specs.FaultNames.{file_fault_name}
use Rattle.station_book.specs.FaultNames.{book_fault_name}
use Rattle.sheet_format.specs.FaultNames.{sheet_fault_name}
use Rattle.sheet_means.specs.FaultNames.{means_fault_name}
use Rattle.adjust_kernel.specs.FaultNames.{kernel_fault_name}
use Rattle.station_check.specs.declared.fault.Fault.{Fault}
use Rattle.station_check.specs.declared.fault.Fault.TheVariants.{Gsi, Book, SheetRead, Sheet}
use Rattle.station_check.specs.declared.fault.Fault.TheVariants.{NoStation, Means, Kernel, Write}
use Rattle.station_check.specs.declared.fault.Fault.TheVariants.{Memory}

-- The name of a fault: where a lower part has found it, the name that it has there.
abbrev pub fault_name : Fault → List ℕ
fault_name (Gsi fault) = file_fault_name fault
fault_name (Book fault) = book_fault_name fault
fault_name SheetRead = codes "Read"
fault_name (Sheet fault) = sheet_fault_name fault
fault_name NoStation = codes "no station"
fault_name (Means fault) = means_fault_name fault
fault_name (Kernel fault) = kernel_fault_name fault
fault_name Write = codes "write failed"
fault_name Memory = codes "out of memory"
