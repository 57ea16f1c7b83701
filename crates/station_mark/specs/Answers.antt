-- What is answered of a field file into which codes are to be put, and how its reader is left.
use Rattle.std.specs.Prelude.{◌≡◌, ◌⊎◌, ℕ, ◌<◌, List, length, Result, Ok, Err, IfOk, ⊤}
use Rattle.byte_ends.specs.Came.{IsReadOut, HasBroken, NoReadFailed}
use Rattle.byte_ends.specs.Came.{Leaves, Leaving, ReadOut, BrokenOff, Unknown}
use Rattle.byte_ends.specs.Source.{Told, ReaderChange, MayGive, HasGiven, given_then}
use Rattle.gsi_file.specs.FileAnswers.{file_answers}
use Rattle.gsi_file.specs.declared.bounds.TheConstants.{LONGEST_FILE}
use Rattle.gsi_file.specs.declared.file_fault.FileFault.TheVariants as file
use Rattle.gsi_file.specs.declared.file_fault.FileKind.TheVariants as kind
use Rattle.job_statements.specs.declared.beginnings.Beginnings.{Beginnings}
use Rattle.set_marks.specs.Markings.{AnswersMark}
use Rattle.set_marks.specs.declared.fault.MarkFault.TheVariants as fault
use Rattle.set_marks.specs.declared.refused.Refused.{Refused}
use Rattle.set_marks.specs.declared.refused.Refused.TheVariants.{File, Stations}
use Rattle.set_marks.specs.declared.marked.Marked.{Marked}
use Rattle.job_statements.specs.Numbers.{Said}
use Rattle.station_mark.specs.declared.marked_file.MarkedFile.{MarkedFile}

-- the marking of a marked file, or why there is none
abbrev pub marking_in : Result MarkedFile Refused → Result Marked Refused
marking_in (Ok file) = Ok file.marked
marking_in (Err refused) = Err refused

-- A reader that gave so many bytes was read whole: it has ended; or a read of it failed, and it has
-- broken off; or the bytes are more than a file may have.
abbrev pub IsReadWhole : ℕ → ReaderChange → Type 0
IsReadWhole count reader =
    IsReadOut reader ⊎ (HasBroken reader ⊎ ((LONGEST_FILE < count) × NoReadFailed reader))

-- It was, whatever is answered of its bytes, but that memory ran out.
abbrev pub WasReadFor : {A : Type 0} → Result A Refused → ℕ → ReaderChange → Type 0
WasReadFor (Err (File fault.Memory)) count reader = ⊤
WasReadFor r count reader = IsReadWhole count reader

-- How a refusal leaves the reader, which is read to its end, to a failed read or past the limit of
-- a file before any line is judged: at each of the file's blocks and its stations it has ended,
-- and at a failed read it has broken off.
abbrev pub marked_left : Refused → Leaving
marked_left (Stations flaw told) = ReadOut
marked_left (File (fault.Reading number what)) = ReadOut
marked_left (File (fault.At number what)) = ReadOut
marked_left (File (fault.File (file.At number kind.Read))) = BrokenOff
marked_left refused = Unknown

-- The answer on what a reader gave, whatever it is, and how it is left. `beginnings` is what is
-- stated of how the file's stations begin, and `stated` what is stated of their sets.
pub record IsMarkAnswer (beginnings : Beginnings) (stated : Said) (gsi : ReaderChange)
    (r : Result MarkedFile Refused) : Type 0 where
  -- The field file's reader gave these bytes.
  pub bytes : List ℕ
  pub reads : HasGiven gsi bytes
  -- Of these bytes, and whatever may be left in the reader after them, this is the answer; and a
  -- marked file is of these very bytes.
  pub marks : (left : Told) → MayGive gsi.told' left
      → AnswersMark beginnings stated bytes (file_answers (given_then bytes left)) (marking_in r)
  pub kept : IfOk r (λ file. file.bytes.items ≡ bytes)
  -- The reader was read whole, whatever its lines are.
  pub whole : WasReadFor r (length bytes) gsi
  -- Where the file is marked, nothing is left: the bytes are all.
  pub reader : Leaves marked_left r gsi
