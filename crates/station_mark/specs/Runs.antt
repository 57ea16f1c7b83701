-- What the answer of a run says, and what `out` got.
use Rattle.std.specs.Prelude.{◌≡◌, ℕ, true, List, Result, Ok, Err}
use Rattle.byte_ends.specs.Sink.{WriterChange}
use Rattle.byte_ends.specs.Source.{ReaderChange}
use Rattle.job_statements.specs.declared.beginnings.Beginnings.{Beginnings}
use Rattle.set_marks.specs.Markings.{copy_of}
use Rattle.set_marks.specs.declared.refused.Refused.{Refused}
use Rattle.job_statements.specs.Numbers.{Said}
use Rattle.station_check.specs.RunEndings.{IsWritten, IsCutShort}
use Rattle.station_mark.specs.Answers.{IsMarkAnswer}
use Rattle.station_mark.specs.FaultTexts.{Unprinted, unmarked, untold}
use Rattle.station_mark.specs.Notes.{notes_of}
use Rattle.station_mark.specs.declared.marked_file.MarkedFile.{MarkedFile}
use Rattle.station_mark.specs.declared.fault.PrintFault.TheVariants.{Write}

-- the copy of a marked file
abbrev pub copy_in : MarkedFile → List ℕ
copy_in file = copy_of file.bytes.items file.marked

-- what is told of it
abbrev pub notes_in : MarkedFile → List ℕ
notes_in file = notes_of file.marked

-- What a marking makes of `out`, and what the run then answers: the marking, its copy whole and
-- flushed; or that a call of `out` failed, which got some of the copy's first bytes; at a refusal
-- nothing is asked of `out`, and the refusal is answered.
abbrev pub PrintsCopy : Result MarkedFile Refused → Result MarkedFile Unprinted → WriterChange
    → Type 0
PrintsCopy (Ok file) (Ok printed) out =
    (printed ≡ file) × IsWritten (copy_in file) out × (out.is_flushed ≡ true)
PrintsCopy (Ok file) (Err u) out = (u ≡ untold Write) × IsCutShort (copy_in file) out
PrintsCopy (Err refused) r out = (r ≡ Err (unmarked refused)) × out.is_unasked

-- A run that puts codes in: all that is promised of the marking, and how its copy was printed.
pub record IsMarkRun (beginnings : Beginnings) (stated : Said) (gsi : ReaderChange)
    (r : Result MarkedFile Unprinted) (out : WriterChange) : Type 0 where
  pub marking : Result MarkedFile Refused
  pub answers : IsMarkAnswer beginnings stated gsi marking
  pub printed : PrintsCopy marking r out
