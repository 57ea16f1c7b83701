-- Whether a read has failed by now.
use Rattle.std.specs.Prelude.{Bool, true, Result, Ok, Err, if◌then◌else◌}
use Rattle.gsi_file.specs.declared.file_fault.FileFault.{FileFault}
use Rattle.gsi_file.specs.declared.file_fault.FileFault.TheVariants.{At, Memory}
use Rattle.gsi_file.specs.declared.file_fault.FileKind.{FileKind}
use Rattle.gsi_file.specs.declared.file_fault.FileKind.TheVariants.{Read, FileTooLong, LineTooLong}
use Rattle.gsi_file.specs.declared.file_fault.FileKind.TheVariants.{Byte, Word, FirstWord}

-- Whether a read has failed after a fault: only `Read` comes of one.
abbrev pub failed_at : Bool → FileKind → Bool
failed_at old Read = true
failed_at old FileTooLong = old
failed_at old LineTooLong = old
failed_at old (Byte at) = old
failed_at old (Word nth) = old
failed_at old FirstWord = old

-- The same after any answer.
abbrev pub failed_by : {A : Type 0} → Bool → Result A FileKind → Bool
failed_by old (Ok x) = old
failed_by old (Err kind) = failed_at old kind

-- The same after an answer that names the line.
abbrev pub failed_with : {A : Type 0} → Bool → Result A FileFault → Bool
failed_with old (Ok x) = old
failed_with old (Err (At number kind)) = failed_at old kind
failed_with old (Err Memory) = old

-- A read has failed exactly where `Read` is answered; once the end or a fault is settled none is
-- made.
abbrev pub failed_in : {A : Type 0} → Bool → Bool → Result A FileFault → Bool
failed_in settled old r = if settled then old else failed_with old r
