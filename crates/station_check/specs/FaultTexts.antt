-- The text of a fault, as the line of a refusal has it: where it is, its name, and what it carries
-- (profile).
use Rattle.std.specs.Prelude.{ℕ, List, Option, Some, None, [], ◌++◌, codes, decimal}
use Rattle.gsi_word.specs.FaultNames.{angle_fault_name}
use Rattle.gsi_file.specs.FaultNames.{file_kind_number}
use Rattle.gsi_file.specs.declared.file_fault.FileFault.TheVariants as file
use Rattle.station_book.specs.declared.fault.BookKind.{BookKind}
use Rattle.station_book.specs.declared.fault.BookKind.TheVariants.{WordTwice, Hz, Zenith}
use Rattle.station_book.specs.declared.fault.BookFault.TheVariants as book
use Rattle.sheet_format.specs.declared.fault.SheetFault.TheVariants as sheet
use Rattle.sheet_means.specs.declared.fault.MeansFault.TheVariants as means
use Rattle.adjust_kernel.specs.FaultNames.{kernel_fault_number}
use Rattle.station_check.specs.declared.fault.Fault.{Fault}
use Rattle.station_check.specs.declared.fault.Fault.TheVariants.{Gsi, Book, SheetRead, Sheet}
use Rattle.station_check.specs.declared.fault.Fault.TheVariants.{Means, Kernel}
use Rattle.station_check.specs.FaultNames.{fault_name}

-- A block or a row by its number, and what is said of it after that.
abbrev pub numbered_place : List ℕ → ℕ → List ℕ
numbered_place part number = part ++ decimal number ++ codes ": "

-- Where a fault is: in a block or a row of this number, or in a whole part of the input. A fault
-- that is nowhere in it has no such text.
abbrev pub place_text : Fault → List ℕ
place_text (Gsi (file.At number _)) = numbered_place (codes "block ") number
place_text (Book (book.At number _)) = numbered_place (codes "block ") number
place_text SheetRead = codes "sheet: "
place_text (Sheet sheet.TooLong) = codes "sheet: "
place_text (Sheet (sheet.Row number _)) = numbered_place (codes "sheet row ") number
place_text (Means means.Incomplete) = codes "means: "
place_text (Kernel fault) = codes "kernel: "
place_text fault = []

-- The number that a fault carries, after a blank.
abbrev pub number_text : Option ℕ → List ℕ
number_text (Some number) = codes " " ++ decimal number
number_text None = []

-- What a fault of a block carries: the index of a word, or the fault of an angle.
abbrev pub carried_by_book : BookKind → List ℕ
carried_by_book (WordTwice index) = number_text (Some index)
carried_by_book (Hz fault) = codes " " ++ angle_fault_name fault
carried_by_book (Zenith fault) = codes " " ++ angle_fault_name fault
carried_by_book kind = []

-- What a fault carries.
abbrev pub carried_text : Fault → List ℕ
carried_text (Gsi (file.At number kind)) = number_text (file_kind_number kind)
carried_text (Book (book.At number kind)) = carried_by_book kind
carried_text (Kernel fault) = number_text (kernel_fault_number fault)
carried_text fault = []

-- What is refused, and why.
abbrev pub fault_text : Fault → List ℕ
fault_text fault = place_text fault ++ fault_name fault ++ carried_text fault
