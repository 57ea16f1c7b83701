-- The first fault of a field file, by what stands at its place and by what stands before it.
use Rattle.std.specs.Prelude.{◌≡◌, ℕ, ◌+◌, List, [], ◌∷◌, ◌++◌, length, reverse, Option, Some, None}
use Rattle.std.specs.List.{AllZip}
use Rattle.gsi_word.specs.Blocks.{GsiBlock, IsBlock}
use Rattle.gsi_file.specs.FileAnswers.{FileAnswers}
use Rattle.gsi_file.specs.ToCome.{FaultIsNext}
use Rattle.gsi_file.specs.declared.file_fault.FileKind.{FileKind}
use Rattle.gsi_file.specs.declared.file_fault.FileFault.TheVariants as file
use Rattle.station_book.specs.Faults.{fault_after, fault_at_end, IsWithoutFault}
use Rattle.station_book.specs.Limits.{FaceLimits}
use Rattle.station_book.specs.Places.{History}
use Rattle.station_book.specs.declared.fault.BookKind.{BookKind}
use Rattle.station_book.specs.declared.fault.BookFault.TheVariants as book
use Rattle.station_check.specs.declared.fault.Fault.{Fault}
use Rattle.station_check.specs.declared.fault.Fault.TheVariants.{Gsi, Book}

-- The next line is a block that has this fault after those before it; or, after the last line, the
-- file ends, and the set that is still open has it.
abbrev pub HasBookFault :
    FaceLimits → History → List (List ℕ) → Option FileKind → BookKind → Type 0
HasBookFault limits past [] last kind = (last ≡ None) × (fault_at_end past ≡ Some kind)
HasBookFault limits past (line ∷ lines) last kind =
    (block : GsiBlock) × IsBlock line block × (fault_after limits past block ≡ Some kind)

-- What comes after these blocks has this fault, and the next number.
abbrev pub StandsNext :
    FaceLimits → History → List (List ℕ) → Option FileKind → Fault → Type 0
StandsNext limits past lines last (Gsi (file.At number kind)) =
    (number ≡ length past + 1)
    × FaultIsNext (record { lines = lines; last = last }) kind
StandsNext limits past lines last (Book (book.At number kind)) =
    (number ≡ length past + 1) × HasBookFault limits past lines last kind
StandsNext limits past lines last fault = ⊥

-- The first fault of a field file, with its number. Each line before it is a block that has no
-- fault after those before it; and what comes next has the fault.
pub record IsFirstFault (limits : FaceLimits) (answers : FileAnswers) (fault : Fault)
    : Type 0 where
  pub before : List (List ℕ)
  pub others : List (List ℕ)
  pub parts : answers.lines ≡ before ++ others
  -- The blocks of the lines before it, the newest first.
  pub blocks : History
  pub each : AllZip IsBlock before (reverse blocks)
  pub faultless : IsWithoutFault limits blocks
  pub stands : StandsNext limits blocks others answers.last fault
