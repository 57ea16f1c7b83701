-- What is seen of an answer.
use Rattle.std.specs.Prelude.{ℕ, List, Result, Ok, Err, ⊤}
use Rattle.set_marks.specs.Markings.{copy_of}
use Rattle.set_marks.specs.declared.fault.MarkFault.TheVariants.{Memory}
use Rattle.set_marks.specs.declared.marked.Marked.{Marked}
use Rattle.set_marks.specs.declared.refused.Refused.{Refused}
use Rattle.set_marks.specs.declared.refused.Refused.TheVariants.{File}
use Rattle.station_mark.specs.FaultTexts.{Unprinted, unmarked}
use Rattle.station_mark.specs.Notes.{notes_of}

-- The answer is not that memory ran out.
abbrev pub IsSettled : Result Marked Refused → Type 0
IsSettled (Err (File Memory)) = ⊥
IsSettled r = ⊤

-- What is printed of a marked file: its copy, and the notes.
pub record Printed : Type 0 where
  pub copy : List ℕ
  pub notes : List ℕ

-- What is printed of a marking of these bytes, or the fault that is refused, and what is told of
-- the stations.
abbrev pub printed_of : List ℕ → Result Marked Refused → Result Printed Unprinted
printed_of bytes (Ok m) = Ok (record { copy = copy_of bytes m; notes = notes_of m })
printed_of bytes (Err refused) = Err (unmarked refused)
