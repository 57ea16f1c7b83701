-- Which faults a call may answer, whatever its readers and writers tell. That memory ran out is
-- answered as `Memory`, whichever part it was, and `Write` only where a call of the writer failed.
use Rattle.std.specs.Prelude.{◌≡◌, Bool, true, Result, Ok, Err, ⊤}
use Rattle.byte_ends.specs.Came.{Leaving, ReadOut, BrokenOff, Unfailed, Unknown}
use Rattle.byte_ends.specs.Sink.{WriterChange}
use Rattle.byte_ends.specs.declared.input.InputFault.{InputFault}
use Rattle.byte_ends.specs.declared.input.InputFault.TheVariants as input
use Rattle.gsi_file.specs.declared.file_fault.FileFault.{FileFault}
use Rattle.gsi_file.specs.declared.file_fault.FileFault.TheVariants as file
use Rattle.gsi_file.specs.declared.file_fault.FileKind.{FileKind}
use Rattle.gsi_file.specs.declared.file_fault.FileKind.TheVariants as kind
use Rattle.adjust_kernel.specs.declared.kernel_fault.KernelFault.TheVariants as kernel
use Rattle.station_book.specs.declared.fault.BookFault.{BookFault}
use Rattle.station_book.specs.declared.fault.BookFault.TheVariants as book
use Rattle.sheet_format.specs.declared.fault.SheetFault.{SheetFault}
use Rattle.sheet_format.specs.declared.fault.SheetFault.TheVariants as sheet
use Rattle.sheet_format.specs.declared.fault.WriteFault.{WriteFault}
use Rattle.sheet_format.specs.declared.fault.WriteFault.TheVariants as writing
use Rattle.sheet_means.specs.declared.fault.MeansFault.{MeansFault}
use Rattle.sheet_means.specs.declared.fault.MeansFault.TheVariants as means
use Rattle.station_check.specs.declared.fault.Fault.{Fault}
use Rattle.station_check.specs.declared.fault.Fault.TheVariants.{Gsi, Book, SheetRead, Sheet}
use Rattle.station_check.specs.declared.fault.Fault.TheVariants.{NoStation, Means, Kernel, Write}
use Rattle.station_check.specs.declared.fault.Fault.TheVariants.{Memory}

-- a fault of the lines as one of a run
abbrev pub of_lines : FileFault → Fault
of_lines (file.At number what) = Gsi (file.At number what)
of_lines file.Memory = Memory

-- a fault of the book as one of a run
abbrev pub of_book : BookFault → Fault
of_book (book.At number kind) = Book (book.At number kind)
of_book book.Memory = Memory

-- why a sheet's bytes can't be had, as a fault of a run
abbrev pub of_input : InputFault → Fault
of_input input.Read = SheetRead
of_input input.TooLong = Sheet sheet.TooLong
of_input input.Memory = Memory

-- a fault of the sheet as one of a run
abbrev pub of_sheet : SheetFault → Fault
of_sheet sheet.TooLong = Sheet sheet.TooLong
of_sheet (sheet.Row number kind) = Sheet (sheet.Row number kind)
of_sheet sheet.Memory = Memory

-- why there is no sheet of means, as a fault of a run
abbrev pub of_means : MeansFault → Fault
of_means means.Incomplete = Means means.Incomplete
of_means means.Memory = Memory

-- why a sheet was not written, as a fault of a run
abbrev pub of_write : WriteFault → Fault
of_write writing.Write = Write
of_write writing.Memory = Memory

-- A fault of the field file or of its blocks, or that memory ran out.
abbrev pub IsOfFile : Fault → Type 0
IsOfFile (Gsi (file.At number what)) = ⊤
IsOfFile (Book (book.At number what)) = ⊤
IsOfFile Memory = ⊤
IsOfFile fault = ⊥

-- A fault that comes from the sheet on, or that memory ran out. The kernel's fault `Name`, that the
-- sheet is of another station, is none of these: the station was found by the sheet's name.
abbrev pub IsOfSheet : Fault → Type 0
IsOfSheet SheetRead = ⊤
IsOfSheet (Sheet sheet.TooLong) = ⊤
IsOfSheet (Sheet (sheet.Row number what)) = ⊤
IsOfSheet NoStation = ⊤
IsOfSheet (Kernel kernel.Name) = ⊥
IsOfSheet (Kernel fault) = ⊤
IsOfSheet Memory = ⊤
IsOfSheet fault = ⊥

-- A fault that comes of a sheet that was read: there is no station of its name, or the kernel's.
abbrev pub IsOfReadSheet : Fault → Type 0
IsOfReadSheet NoStation = ⊤
IsOfReadSheet (Kernel fault) = ⊤
IsOfReadSheet fault = ⊥

-- What a check may answer.
abbrev pub IsOfCheck : Fault → Type 0
IsOfCheck (Gsi (file.At number what)) = ⊤
IsOfCheck (Book (book.At number what)) = ⊤
IsOfCheck fault = IsOfSheet fault

-- What the writing of a list may answer.
abbrev pub IsOfList : Fault → Type 0
IsOfList Write = ⊤
IsOfList fault = IsOfFile fault

-- What the writing of a sheet of means may answer.
abbrev pub IsOfMeans : Fault → Type 0
IsOfMeans NoStation = ⊤
IsOfMeans (Means means.Incomplete) = ⊤
IsOfMeans Write = ⊤
IsOfMeans fault = IsOfFile fault

-- What the writing of words may answer.
abbrev pub IsOfWords : Fault → Type 0
IsOfWords (Gsi (file.At number what)) = ⊤
IsOfWords Write = ⊤
IsOfWords Memory = ⊤
IsOfWords fault = ⊥

-- A call of the writer failed exactly where the answer says so.
abbrev pub FailsAtWrite : {A : Type 0} → Result A Fault → WriterChange → Type 0
FailsAtWrite (Err Write) writer = writer.failed' ≡ true
FailsAtWrite (Err fault) writer = writer.failed' ≡ writer.failed
FailsAtWrite (Ok x) writer = writer.failed' ≡ writer.failed

-- At a refusal other than a failed write nothing was asked of the writer.
abbrev pub IsUnwritten : {A : Type 0} → Result A Fault → WriterChange → Type 0
IsUnwritten (Ok x) writer = ⊤
IsUnwritten (Err Write) writer = ⊤
IsUnwritten (Err fault) writer = writer.is_unasked

-- With Ok all that was written was flushed, after its last byte.
abbrev pub Flushes : {A : Type 0} → Result A Fault → Bool → Type 0
Flushes (Ok x) is_flushed = is_flushed ≡ true
Flushes (Err fault) is_flushed = ⊤

-- The same of words, where a fault of the file comes after them.
abbrev pub FlushesWords : {A : Type 0} → Result A Fault → Bool → Type 0
FlushesWords (Ok x) is_flushed = is_flushed ≡ true
FlushesWords (Err (Gsi fault)) is_flushed = is_flushed ≡ true
FlushesWords (Err fault) is_flushed = ⊤

-- How a fault of the lines leaves their reader: at `Read` a read failed, and it has broken off; no
-- read failed at any other.
abbrev pub lines_left : FileKind → Leaving
lines_left kind.Read = BrokenOff
lines_left other = Unfailed

-- How a fault leaves the reader of the field file: as a fault of its lines says; no read failed at
-- one of its blocks, or where memory ran out; and at each that comes after these it has ended.
abbrev pub file_left : Fault → Leaving
file_left (Gsi (file.At number what)) = lines_left what
file_left (Gsi file.Memory) = Unfailed
file_left (Book fault) = Unfailed
file_left Memory = Unfailed
file_left fault = ReadOut

-- The same of words, which are written while the file is read: at `Write` nothing is known of it.
abbrev pub words_left : Fault → Leaving
words_left Write = Unknown
words_left fault = file_left fault
