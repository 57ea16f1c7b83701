-- The names of faults, as the line of a refusal has them, and the numbers that they carry
-- (profile).
use Rattle.std.specs.Prelude.{ℕ, List, Option, Some, None, codes}
use Rattle.gsi_file.specs.declared.file_fault.FileKind.{FileKind}
use Rattle.gsi_file.specs.declared.file_fault.FileKind.TheVariants.{Read, FileTooLong, LineTooLong}
use Rattle.gsi_file.specs.declared.file_fault.FileKind.TheVariants.{Byte, Word, FirstWord}
use Rattle.gsi_file.specs.declared.file_fault.FileFault.{FileFault}
use Rattle.gsi_file.specs.declared.file_fault.FileFault.TheVariants.{At, Memory}

-- The name of a fault of the file.
abbrev pub file_kind_name : FileKind → List ℕ
file_kind_name Read = codes "Read"
file_kind_name FileTooLong = codes "FileTooLong"
file_kind_name LineTooLong = codes "LineTooLong"
file_kind_name (Byte at) = codes "Byte"
file_kind_name (Word nth) = codes "Word"
file_kind_name FirstWord = codes "FirstWord"

-- The place in the line that a fault of the file carries.
abbrev pub file_kind_number : FileKind → Option ℕ
file_kind_number (Byte at) = Some at
file_kind_number (Word nth) = Some nth
file_kind_number kind = None

-- The name of a fault of the file, or that memory ran out.
abbrev pub file_fault_name : FileFault → List ℕ
file_fault_name (At number kind) = file_kind_name kind
file_fault_name Memory = codes "out of memory"
