-- What a field file comes to where codes are to be put in: a copy that has them, or why there is
-- none. A number that is stated of the sets of a station refuses them, and never changes where they
-- stand.
use Rattle.std.specs.Prelude.{◌≡◌, ℕ, ◌+◌, List, [], ◌++◌, All, length, reverse, Some}
use Rattle.std.specs.Prelude.{None, Result, Ok, Err, ⊤}
use Rattle.std.specs.List.{AllZip}
use Rattle.gsi_word.specs.Blocks.{IsBlock}
use Rattle.gsi_file.specs.FileAnswers.{FileAnswers}
use Rattle.gsi_file.specs.ToCome.{FaultIsNext}
use Rattle.gsi_file.specs.declared.file_fault.FileKind.{FileKind}
use Rattle.gsi_file.specs.declared.file_fault.FileFault.TheVariants as file
use Rattle.station_book.specs.Places.{History}
use Rattle.job_statements.specs.declared.beginnings.Beginnings.{Beginnings}
use Rattle.set_marks.specs.declared.fault.MarkFault.{MarkFault}
use Rattle.set_marks.specs.declared.fault.MarkFault.TheVariants.{File, Reading, At, Memory}
use Rattle.set_marks.specs.declared.flaw.Flaw.{Flaw}
use Rattle.set_marks.specs.declared.marked.Marked.{Marked}
use Rattle.set_marks.specs.declared.recognized.Recognized.{Recognized}
use Rattle.set_marks.specs.declared.refused.Refused.{Refused}
use Rattle.set_marks.specs.declared.refused.Refused.TheVariants as refused
use Rattle.job_statements.specs.Numbers.{Said}
use Rattle.set_marks.specs.Stations.{fault_of_blocks}
use Rattle.set_marks.specs.Placing.{placed}
use Rattle.set_marks.specs.Copies.{woven, AreOrdered, BeginsLine, IsMarkedCopy}
use Rattle.set_marks.specs.Marking.{marks_of, recognized_of, refusal}

-- The file ended without a fault of its lines, and these are its blocks, the newest first.
pub record AreBlocks (answers : FileAnswers) (h : History) : Type 0 where
  pub ended : answers.last ≡ None
  pub each : AllZip IsBlock answers.lines (reverse h)

-- The lines of the file up to some place are these blocks, and what comes next is this fault.
pub record IsFileFault (answers : FileAnswers) (number : ℕ) (kind : FileKind) : Type 0 where
  pub blocks : History
  pub lines : List (List ℕ)
  pub left : FileAnswers
  pub each : AllZip IsBlock lines (reverse blocks)
  pub split : answers ≡ record { lines = lines ++ left.lines; last = left.last }
  pub fault : FaultIsNext left kind
  pub counted : number ≡ length blocks + 1

-- The copy of a file's bytes: with the code lines of a marking before their places.
abbrev pub copy_of : List ℕ → Marked → List ℕ
copy_of bytes m = woven 0 bytes m.marks.items

-- The file has no fault of its lines and blocks, these are its code lines, in order, each where a
-- line begins, so that this is its copy, and this is told of its stations, for which it isn't
-- refused.
pub record IsMarking (beginnings : Beginnings) (stated : Said) (bytes : List ℕ)
    (answers : FileAnswers) (m : Marked) : Type 0 where
  pub blocks : History
  pub are_blocks : AreBlocks answers blocks
  pub clean : fault_of_blocks beginnings blocks ≡ None
  pub marks : m.marks.items ≡ placed bytes (marks_of beginnings stated blocks)
  pub ordered : AreOrdered 0 (length bytes) m.marks.items
  pub begin : All (BeginsLine bytes) m.marks.items
  pub copy : copy_of bytes m ≡ woven 0 bytes (placed bytes (marks_of beginnings stated blocks))
  pub identity : IsMarkedCopy bytes (copy_of bytes m)
  pub told : m.stations.items ≡ recognized_of beginnings stated blocks
  pub unrefused : refusal stated (length blocks + 1) m.stations.items ≡ None

-- The file's lines are blocks, and this is the fault of the first that has one by itself.
pub record IsBlockFault (beginnings : Beginnings) (answers : FileAnswers) (fault : MarkFault)
    : Type 0 where
  pub blocks : History
  pub are_blocks : AreBlocks answers blocks
  pub fault_is : fault_of_blocks beginnings blocks ≡ Some fault

-- The file has no fault of its lines and blocks, this is told of its stations, of which each is
-- judged by itself, and for this fault it is refused.
pub record IsRefused (beginnings : Beginnings) (stated : Said) (answers : FileAnswers)
    (flaw : Flaw) (told : List Recognized) : Type 0 where
  pub blocks : History
  pub are_blocks : AreBlocks answers blocks
  pub clean : fault_of_blocks beginnings blocks ≡ None
  pub told_is : told ≡ recognized_of beginnings stated blocks
  pub fault_is : refusal stated (length blocks + 1) told ≡ Some flaw

-- The first fault of the file's lines, or of its blocks by themselves; or memory ran out.
abbrev pub IsFault : Beginnings → FileAnswers → MarkFault → Type 0
IsFault beginnings answers (File (file.At number kind)) = IsFileFault answers number kind
IsFault beginnings answers (File file.Memory) = ⊥
IsFault beginnings answers (Reading number kind) =
    IsBlockFault beginnings answers (Reading number kind)
IsFault beginnings answers (At number kind) = IsBlockFault beginnings answers (At number kind)
IsFault beginnings answers Memory = ⊤

-- the fault for which a file is refused
abbrev pub fault_in : Refused → MarkFault
fault_in (refused.File fault) = fault
fault_in (refused.Stations flaw told) = At flaw.block flaw.kind

-- what is told of its stations, where they were judged
abbrev pub told_in : Refused → List Recognized
told_in (refused.File fault) = []
told_in (refused.Stations flaw told) = told.items

-- What is answered: the marking; or the first fault of a line, else of a block; else what is told
-- of the stations, and the fault for which they are refused; or that memory ran out.
abbrev pub AnswersMark : Beginnings → Said → List ℕ → FileAnswers → Result Marked Refused
    → Type 0
AnswersMark beginnings stated bytes answers (Ok m) = IsMarking beginnings stated bytes answers m
AnswersMark beginnings stated bytes answers (Err (refused.File fault)) =
    IsFault beginnings answers fault
AnswersMark beginnings stated bytes answers (Err (refused.Stations flaw told)) =
    IsRefused beginnings stated answers flaw told.items
