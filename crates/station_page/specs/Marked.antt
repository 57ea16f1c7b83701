-- What putting codes into a field file comes to: a copy or a fault, and what is told of stations.
use Rattle.std.specs.Prelude.{◌≡◌, ℕ, List, [], Result, Ok, Err}
use Rattle.gsi_file.specs.FileAnswers.{file_answers}
use Rattle.job_statements.specs.Numbers.{said_in}
use Rattle.job_statements.specs.declared.beginnings.Beginnings.{Beginnings}
use Rattle.job_statements.specs.declared.stated.Stated.{Stated}
use Rattle.set_marks.specs.Markings.{AnswersMark, copy_of, fault_in, told_in}
use Rattle.set_marks.specs.declared.fault.MarkFault.{MarkFault}
use Rattle.set_marks.specs.declared.fault.MarkFault.TheVariants.{Memory}
use Rattle.set_marks.specs.declared.marked.Marked.{Marked}
use Rattle.set_marks.specs.declared.refused.Refused.{Refused}
use Rattle.station_check.specs.Came.{source_of}
use Rattle.station_mark.specs.FaultTexts.{refusal_line, refusal_text, unmarked}
use Rattle.station_mark.specs.Notes.{notes_of}
use Rattle.station_mark.specs.ToldRows.{told_rows}
use Rattle.station_mark.specs.declared.fault.PrintFault.TheVariants.{Mark}
use Rattle.station_page.specs.declared.marking.ToldAs.{ToldAs}
use Rattle.station_page.specs.declared.marking.ToldAs.TheVariants.{Notes, Rows}

-- the copy of these bytes, with codes; or the fault
abbrev pub copied : List ℕ → Result Marked Refused → Result (List ℕ) MarkFault
copied gsi (Ok m) = Ok (copy_of gsi m)
copied gsi (Err refused) = Err (fault_in refused)

-- the copy; at a refusal nothing beside notes, and its line beside rows
abbrev pub copy_text : ToldAs → Result (List ℕ) MarkFault → List ℕ
copy_text form (Ok copy) = copy
copy_text Notes (Err fault) = []
copy_text Rows (Err fault) = refusal_line (Mark fault)

-- what is told: notes, or at a refusal its text; or the rows of the stations that were judged
abbrev pub told_text : ToldAs → Result Marked Refused → List ℕ
told_text Notes (Ok m) = notes_of m
told_text Notes (Err refused) = refusal_text (unmarked refused)
told_text Rows (Ok m) = told_rows m.stations.items
told_text Rows (Err refused) = told_rows (told_in refused)

-- what is told where memory ran out beside the marking: the line that says so in the place of notes,
-- and neither rows nor their titles
abbrev pub untold_text : ToldAs → List ℕ
untold_text Notes = refusal_line (Mark Memory)
untold_text Rows = []

-- They are the copy or the fault, and what is told in this form, of putting codes into these bytes,
-- by beginnings and by what is stated of the file.
pub record Marks (form : ToldAs) (beginnings : Beginnings) (IsStated : Stated → Type 0)
    (gsi : List ℕ) (copy : Result (List ℕ) MarkFault) (told : List ℕ) : Type 0 where
  pub stated : Stated
  pub is_stated : IsStated stated
  pub marking : Result Marked Refused
  pub marks : AnswersMark beginnings (said_in stated) gsi (file_answers (source_of gsi)) marking
  pub copy_is : copy ≡ copied gsi marking
  pub told_is : told ≡ told_text form marking
