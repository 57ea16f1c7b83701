-- What each call answers, of the very bytes that it was given. `room` is how many bytes there is
-- room for, `answered` the status, and `shown` what was handed out.
use Rattle.std.specs.Prelude.{◌≡◌, ◌≢◌, ◌⊎◌, ◌<◌, ◌≤◌, ◌+◌, ◌*◌, ℕ, Bool, false, List, [], length}
use Rattle.std.specs.Prelude.{Option, Some, None}
use Rattle.std.specs.Prelude.{Result, Ok, Err, IfErr, ⊤}
use Rattle.std.specs.Borrow.{Bor}
use Rattle.byte_digests.specs.DigestLines.{digest_line}
use Rattle.byte_digests.specs.declared.put_line.TheConstants.{MOST_BESIDE_NAME}
use Rattle.direction_table.specs.declared.form.TableForm.{TableForm}
use Rattle.gsi_file.specs.FileAnswers.{file_answers}
use Rattle.adjust_kernel.specs.declared.accepted.Accepted.{Accepted}
use Rattle.station_answers.specs.Answers.{TellsOf}
use Rattle.station_answers.specs.Saying.{SaysDirections, SaysReport, SaysResiduals, SaysWhole}
use Rattle.station_book.specs.Limits.{FaceLimits}
use Rattle.station_book.specs.ResultLimits.{of_faces}
use Rattle.station_book.specs.Stations.{SurveyedStation}
use Rattle.station_book.specs.declared.result_limits.ResultLimits.{ResultLimits}
use Rattle.job_statements.specs.declared.beginnings.Beginnings.{Beginnings}
use Rattle.set_marks.specs.declared.fault.MarkFault.{MarkFault}
use Rattle.set_marks.specs.declared.fault.MarkFault.TheVariants as mark
use Rattle.job_statements.specs.declared.stated.Stated.{Stated}
use Rattle.station_check.specs.Came.{source_of}
use Rattle.station_check.specs.Answerable.{IsOfCheck}
use Rattle.sha2.specs.Sha256.{sha256}
use Rattle.station_check.specs.declared.fault.Fault.{Fault}
use Rattle.station_check.specs.declared.fault.Fault.TheVariants.{Memory, Write}
use Rattle.station_check.specs.RunEndings.{status_of}
use Rattle.station_check.specs.Listing.{WritesList}
use Rattle.station_check.specs.Means.{WritesMeans}
use Rattle.station_check.specs.Promise.{KeepsPromise}
use Rattle.station_check.specs.Words.{WritesWords}
use Rattle.station_check.specs.declared.runs.TheConstants.{ACCEPTED, REFUSED}
use Rattle.station_check.specs.VerdictLines.{refusal_line}
use Rattle.station_check.specs.declared.verdict_line.TheConstants.{LONGEST_VERDICT_LINE}
use Rattle.station_compare.specs.Answers.{Compares}
use Rattle.station_compare.specs.FaultTexts as compare
use Rattle.station_compare.specs.declared.agreement.Agreement.{Agreement}
use Rattle.station_compare.specs.declared.fault.CompareFault.{CompareFault}
use Rattle.station_differences.specs.declared.line_form.LineForm.TheVariants.{Rows}
use Rattle.station_explain.specs.Table.{Explanation, IsTheTable}
use Rattle.station_report.specs.NoteTexts.{ReportHead}
use Rattle.table_answers.specs.Answers.{TellsBeside}
use Rattle.table_answers.specs.Comparisons.{SaysComparison, noted_verdict, verdict}
use Rattle.table_answers.specs.Noting.{Noting}
use Rattle.report_phrases.specs.declared.language.Language.{Language}
use Rattle.report_rows.specs.Stating.{AreReportRows}
use Rattle.row_forms.specs.declared.form.RowForm.{RowForm}
use Rattle.row_forms.specs.declared.form.RowForm.TheVariants.{Commas, Semicolons}
use Rattle.table_answers.specs.Refusing.{RefusesComparison, RefusesDifferences}
use Rattle.table_answers.specs.Saying.{SaysDifferences}
use Rattle.table_answers.specs.Wholes.{IsWhole, WholeValue, verdict_parts}
use Rattle.table_answers.specs.declared.compared.Compared.{Compared}
use Rattle.table_report.specs.Stating.{ReportAsked}
use Rattle.direction_table.specs.declared.reading.TheConstants.{LONGEST_TABLE}
use Rattle.table_titles.specs.FaultTexts.{titles_line}
use Rattle.table_titles.specs.declared.fault.TitlesFault.{TitlesFault}
use Rattle.table_titles.specs.declared.fault.TitlesFault.TheVariants.{TooLong}
use Rattle.changed_lines.specs.Answers.{IsChanged, IsFault}
use Rattle.changed_lines.specs.Sayings.{SayChanges}
use Rattle.changed_lines.specs.declared.change.Change.{Change}
use Rattle.changed_lines.specs.declared.fault.ChangeFault.{ChangeFault}
use Rattle.changed_lines.specs.declared.fault.ChangeFault.TheVariants as change
use Rattle.station_change.specs.FaultTexts.{change_line}
use Rattle.station_page.specs.Explained.{AnswersLine, unexplained_line}
use Rattle.station_page.specs.HandedOut.{HandsOut, HandsOutMade, verdict_line, text_or_refusal}
use Rattle.station_page.specs.HandedOut.{comparison_line, refusal_text, text_or}
use Rattle.station_page.specs.Limits.{States, stated_limit}
use Rattle.station_page.specs.Listed.{TellsListed}
use Rattle.station_page.specs.Marked.{Marks, copy_text, untold_text}
use Rattle.station_page.specs.Placed.{IsPlaceText}
use Rattle.station_page.specs.Recorded.{IsRecorded}
use Rattle.station_page.specs.TextRecords.{AreTheRecords}
use Rattle.station_page.specs.Titled.{TellsColumns}
use Rattle.station_page.specs.declared.explain.ExplainedAs.{ExplainedAs}
use Rattle.station_page.specs.declared.explain.Unexplained.{Unexplained}
use Rattle.station_page.specs.declared.hand_out.TheConstants.{OUT_OF_RANGE}
use Rattle.station_page.specs.declared.marking.ToldAs.{ToldAs}

-- The status and the line are those of the verdict on these bytes, of which the whole promise is
-- kept; with room for the longest line of one it is answered.
pub record IsCheckOf (two_c two_i : ℕ) (is_stated : Bool) (residual : ℕ) (gsi sheet : List ℕ)
    (room answered : ℕ) (shown : List ℕ) : Type 0 where
  pub limits : FaceLimits
  pub states : States two_c two_i limits
  pub verdict : Result Accepted Fault
  pub promise : KeepsPromise limits (stated_limit is_stated residual)
      (source_of gsi) (source_of sheet) verdict
  pub of_check : IfErr verdict IsOfCheck
  pub hands_out : HandsOut (status_of verdict) (verdict_line verdict) room answered shown
  pub answers : LONGEST_VERDICT_LINE ≤ room → answered < 2

-- The status and the text are those of the list of these bytes; no write fails.
pub record IsListOf (two_c two_i : ℕ) (gsi : List ℕ) (room answered : ℕ) (shown : List ℕ)
    : Type 0 where
  pub limits : FaceLimits
  pub states : States two_c two_i limits
  pub answer : Result ⊤ Fault
  pub text : List ℕ
  pub writes : WritesList limits (file_answers (source_of gsi)) answer (Some []) (Some text)
  pub unfailed : answer ≢ Err Write
  pub hands_out : HandsOut (status_of answer) (text_or_refusal text answer) room answered shown

-- The status and the text are those of the sheet of means of the station of this name; no write
-- fails.
pub record IsMeansOf (two_c two_i : ℕ) (gsi name : List ℕ) (room answered : ℕ) (shown : List ℕ)
    : Type 0 where
  pub limits : FaceLimits
  pub states : States two_c two_i limits
  pub answer : Result ⊤ Fault
  pub text : List ℕ
  pub writes : WritesMeans limits (file_answers (source_of gsi)) name answer
      (Some []) (Some text)
  pub unfailed : answer ≢ Err Write
  pub hands_out : HandsOut (status_of answer) (text_or_refusal text answer) room answered shown

-- The status, the text and the line of a refusal are those of the words of these bytes; no write
-- fails. At a fault of the file its line stands beside the words of the blocks before it; where
-- memory ran out it stands alone.
pub record IsWordsOf (gsi : List ℕ) (refusal_room : ℕ) (refusal : List ℕ) (room answered : ℕ)
    (shown : List ℕ) : Type 0 where
  pub answer : Result ℕ Fault
  pub text : List ℕ
  pub writes : WritesWords answer (Some []) (Some text) (file_answers (source_of gsi))
  pub unfailed : answer ≢ Err Write
  pub alone : answer ≡ Err Memory → text ≡ []
  pub status : ℕ
  pub hands_text_out : HandsOut (status_of answer) text room status shown
  pub hands_line_out : HandsOut status (refusal_text answer) refusal_room answered refusal

-- The status and the text are those of the list of these bytes as rows, with how many of its
-- readings went unchecked.
pub record IsListRowsOf (two_c two_i : ℕ) (gsi : List ℕ) (room answered : ℕ) (shown : List ℕ)
    : Type 0 where
  pub limits : FaceLimits
  pub states : States two_c two_i limits
  pub answer : Result (List ℕ) Fault
  pub tells : TellsListed limits (file_answers (source_of gsi)) answer
  pub hands_out : HandsOut (status_of answer) (text_or refusal_line answer) room answered shown

-- The status and the text are those of what is answered of the station of this name in these bytes,
-- by the largest limit of residuals.
pub record IsTextOf (Says : ResultLimits → SurveyedStation → List ℕ → Type 0) (two_c two_i : ℕ)
    (gsi name : List ℕ) (room answered : ℕ) (shown : List ℕ) : Type 0 where
  pub limits : FaceLimits
  pub states : States two_c two_i limits
  pub answer : Result (List ℕ) CompareFault
  pub tells : TellsOf (Says (of_faces limits)) (of_faces limits) (file_answers (source_of gsi))
      name answer
  pub hands_out : HandsOut (status_of answer) (text_or compare.refusal_line answer) room answered
      shown

-- It is the table of its least-squares directions, with so many decimals.
abbrev pub IsDirectionsOf : ℕ → ℕ → List ℕ → List ℕ → ℕ → ℕ → ℕ → List ℕ → Type 0
IsDirectionsOf two_c two_i gsi name decimals =
    IsTextOf (λ limits. SaysDirections Commas decimals) two_c two_i gsi name

-- The same with semicolons between its cells and commas in its numbers.
abbrev pub IsCommaDirectionsOf : ℕ → ℕ → List ℕ → List ℕ → ℕ → ℕ → ℕ → List ℕ → Type 0
IsCommaDirectionsOf two_c two_i gsi name decimals =
    IsTextOf (λ limits. SaysDirections Semicolons decimals) two_c two_i gsi name

-- It is the rows of its report, with semicolons between their cells and commas in their numbers.
abbrev pub IsCommaRowsOf : ℕ → ℕ → List ℕ → List ℕ → ℕ → ℕ → List ℕ → Type 0
IsCommaRowsOf two_c two_i gsi name =
    IsTextOf (λ limits. AreReportRows Semicolons) two_c two_i gsi name

-- It is its residuals, observation by observation.
abbrev pub IsResidualsOf : ℕ → ℕ → List ℕ → List ℕ → ℕ → ℕ → List ℕ → Type 0
IsResidualsOf two_c two_i gsi name = IsTextOf (λ limits. SaysResiduals) two_c two_i gsi name

-- the head of a report in a language, which names the field file by these bytes of a path, and notes
-- nothing
abbrev pub head_in : Language → List ℕ → ReportHead
head_in language path = record {
  path = path;
  notes = record {
    language = language;
    date = None;
    lines = [];
    signature = false;
    pages = false;
  };
}

-- It is its report, with this head.
abbrev pub IsReportOf : ℕ → ℕ → List ℕ → ReportHead → List ℕ → ℕ → ℕ → List ℕ → Type 0
IsReportOf two_c two_i gsi head name = IsTextOf (SaysReport head) two_c two_i gsi name

-- It is all of it: its directions with so many decimals, the rows of its report, how accurate it
-- is, what its face differences say together, and its report, which names the field file by these
-- bytes of a path.
abbrev pub IsWholeOf : ℕ → ℕ → List ℕ → List ℕ → List ℕ → ℕ → ℕ → ℕ → List ℕ → Type 0
IsWholeOf two_c two_i gsi path name decimals =
    IsTextOf (SaysWhole decimals path) two_c two_i gsi name

-- the note of the table of an answer; a fault before it was compared has none
abbrev pub note_of : {V : Type 0} → Result (V × List ℕ) CompareFault → List ℕ
note_of (Ok noted) = noted.1
note_of (Err fault) = []

-- an answer without the note of its table
abbrev pub answer_alone : {V : Type 0} → Result (V × List ℕ) CompareFault → Result V CompareFault
answer_alone (Ok noted) = Ok noted.0
answer_alone (Err fault) = Err fault

-- The status and the text are those of what is said of these bytes of a table, read in this form,
-- beside the station of this name in these bytes of a field file, by the largest limit of residuals;
-- the note is that of the table, and a refusal before it was compared has none. With room that is
-- enough for any such text, if there is such room, and for the note it is answered.
pub record IsBeside {V : Type 0} (Says : ResultLimits → SurveyedStation → List ℕ → V → Type 0)
    (Refuses : ResultLimits → SurveyedStation → List ℕ → CompareFault → Type 0) (form : TableForm)
    (status_in : Result V CompareFault → ℕ) (text_in : Result V CompareFault → List ℕ)
    (IsEnough : ℕ → Type 0) (two_c two_i : ℕ) (gsi table name : List ℕ) (note_room : ℕ)
    (note : List ℕ) (room answered : ℕ) (shown : List ℕ) : Type 0 where
  pub limits : FaceLimits
  pub states : States two_c two_i limits
  pub answer : Result (V × List ℕ) CompareFault
  pub tells : TellsBeside (Noting (Says (of_faces limits)) form) (Refuses (of_faces limits))
      (of_faces limits) (file_answers (source_of gsi)) (source_of table) name answer
  pub status : ℕ
  pub hands_text_out : HandsOut (status_in (answer_alone answer)) (text_in (answer_alone answer))
      room status shown
  pub hands_note_out : HandsOut status (note_of answer) note_room answered note
  pub answers : IsEnough room → length (note_of answer) ≤ note_room → answered < 2

-- no room is enough for each text
abbrev pub IsNeverEnough : ℕ → Type 0
IsNeverEnough room = ⊥

-- the verdict of an answer
abbrev pub compared_verdict : Result Compared CompareFault → Result Agreement CompareFault
compared_verdict (Ok compared) = verdict compared
compared_verdict (Err fault) = Err fault

-- the status of a comparison
abbrev pub comparison_status : Result Compared CompareFault → ℕ
comparison_status answer = status_of (compared_verdict answer)

-- its line
abbrev pub comparison_text : Result Compared CompareFault → List ℕ
comparison_text answer = comparison_line (compared_verdict answer)

-- room for the longest line of a verdict
abbrev pub IsRoomForLine : ℕ → Type 0
IsRoomForLine room = LONGEST_VERDICT_LINE ≤ room

-- The status and the line are those of the comparison, of which the whole promise is kept. With room
-- for the longest line of a verdict and for the note it is answered.
pub record IsComparisonOf (two_c two_i : ℕ) (form : TableForm) (within : Option ℕ)
    (gsi table name : List ℕ) (note_room : ℕ) (note : List ℕ) (room answered : ℕ) (shown : List ℕ)
    : Type 0 where
  pub beside : IsBeside (SaysComparison form within) (RefusesComparison form) form
      comparison_status comparison_text IsRoomForLine two_c two_i gsi table name note_room note room
      answered shown
  pub compares : Compares form (of_faces beside.limits) (file_answers (source_of gsi))
      (source_of table) name within (noted_verdict beside.answer)

-- It is the differences, target by target, as rows of this form.
abbrev pub IsDifferencesOf : RowForm → ℕ → ℕ → TableForm → List ℕ → List ℕ → List ℕ → ℕ → List ℕ
    → ℕ → ℕ → List ℕ → Type 0
IsDifferencesOf rows two_c two_i form =
    IsBeside (λ limits. SaysDifferences form (Rows rows)) (RefusesDifferences form) form status_of
    (text_or compare.refusal_line) IsNeverEnough two_c two_i

-- the parts of an answer: of a table that was compared its text; of a refusal its line and its row
abbrev pub parts_of : Result WholeValue CompareFault → List ℕ
parts_of (Ok whole) = whole.text
parts_of (Err fault) = verdict_parts (Err fault)

-- the status of its verdict
abbrev pub whole_status : Result WholeValue CompareFault → ℕ
whole_status (Ok whole) = status_of (verdict whole.compared)
whole_status (Err fault) = REFUSED

-- It is all that is answered of both, as its report is asked for.
abbrev pub IsTableOf : ℕ → ℕ → ReportAsked → List ℕ → List ℕ → List ℕ → ℕ → List ℕ → ℕ → ℕ
    → List ℕ → Type 0
IsTableOf two_c two_i asked =
    IsBeside (IsWhole asked) (RefusesComparison asked.form) asked.form whole_status parts_of
    IsNeverEnough two_c two_i

-- The status, the copy and what is told of it in this form, or the refusal, are those of putting
-- codes into these bytes, by beginnings and by what is stated of the file.
pub record IsMarkOf (form : ToldAs) (AreBeginnings : Beginnings → Type 0)
    (IsStated : Stated → Type 0) (gsi : List ℕ) (told_room : ℕ) (told : List ℕ)
    (room answered : ℕ) (shown : List ℕ) : Type 0 where
  pub beginnings : Beginnings
  pub are_beginnings : AreBeginnings beginnings
  pub copy : Result (List ℕ) MarkFault
  pub text : List ℕ
  pub marks : Marks form beginnings IsStated gsi copy text
  pub status : ℕ
  pub hands_copy_out : HandsOut (status_of copy) (copy_text form copy) room status shown
  pub hands_text_out : HandsOut status text told_room answered told

-- Memory ran out beside the marking: what is in the place of the copy is handed out, and what is told
-- then.
pub record RanOut (form : ToldAs) (told_room : ℕ) (told : List ℕ) (room answered : ℕ)
    (shown : List ℕ) : Type 0 where
  pub status : ℕ
  pub hands_no_copy_out : HandsOut REFUSED (copy_text form (Err mark.Memory)) room status shown
  pub hands_text_out : HandsOut status (untold_text form) told_room answered told

-- What is stated can't be: nothing is handed out, and the status says so.
pub record IsBeyond (AreBeginnings : Beginnings → Type 0) (IsStated : Stated → Type 0)
    (told : List ℕ) (answered : ℕ) (shown : List ℕ) : Type 0 where
  pub none : (beginnings : Beginnings) (stated : Stated) → AreBeginnings beginnings
      → ¬ (IsStated stated)
  pub status : answered ≡ OUT_OF_RANGE
  pub no_copy : shown ≡ []
  pub none_told : told ≡ []

-- One of these is answered.
abbrev pub IsMarkAnswer : ToldAs → (Beginnings → Type 0) → (Stated → Type 0) → List ℕ → ℕ → List ℕ
    → ℕ → ℕ → List ℕ → Type 0
IsMarkAnswer form AreBeginnings IsStated gsi told_room told room answered shown =
    IsMarkOf form AreBeginnings IsStated gsi told_room told room answered shown
    ⊎ RanOut form told_room told room answered shown
    ⊎ IsBeyond AreBeginnings IsStated told answered shown

-- The line of these bytes' digest and of this name is handed out; with so much room it always is.
pub record IsDigestOf (file name : List ℕ) (room answered : ℕ) (shown : List ℕ) : Type 0 where
  pub hands_out : HandsOut ACCEPTED (digest_line (sha256 file) name) room answered shown
  pub answers : MOST_BESIDE_NAME + 2 * length name ≤ room → answered ≡ ACCEPTED

-- The status and the text are those of the explanation that a line asks for, of the faults of the
-- program's own table.
pub record IsExplanationOf (form : ExplainedAs) (line : List ℕ) (room answered : ℕ)
    (shown : List ℕ) : Type 0 where
  pub table : List (Bor (List Explanation))
  pub is_the_table : IsTheTable table
  pub answer : Result (List ℕ) Unexplained
  pub answers : AnswersLine form table line answer
  pub hands_out : HandsOut (status_of answer) (text_or unexplained_line answer) room answered shown

-- The status and the text are those of the columns of this table with these titles; or memory ran
-- out, but not for one that is too long.
pub record IsColumnsOf (targets directions table : List ℕ) (room answered : ℕ) (shown : List ℕ)
    : Type 0 where
  pub answer : Result (List ℕ) TitlesFault
  pub tells : TellsColumns targets directions table answer
  pub too_long : LONGEST_TABLE < length table → answer ≡ Err TooLong
  pub hands_out : HandsOut (status_of answer) (text_or titles_line answer) room answered shown

-- The text is that of where the line of a refusal stands in these bytes of a field file and of
-- another file; or memory ran out.
abbrev pub IsPlaceOf : List ℕ → List ℕ → List ℕ → ℕ → ℕ → List ℕ → Type 0
IsPlaceOf line gsi other = HandsOutMade (IsPlaceText line gsi other)

-- The text is that of what these bytes recorded of instrument and time, in a language; or memory ran
-- out.
abbrev pub IsInstrumentOf : Language → List ℕ → ℕ → ℕ → List ℕ → Type 0
IsInstrumentOf language gsi = HandsOutMade (IsRecorded language gsi)

-- The text is that of the records of this text, whose fields this byte separates; or memory ran out.
abbrev pub IsRecordsOf : ℕ → List ℕ → ℕ → ℕ → List ℕ → Type 0
IsRecordsOf separator text = HandsOutMade (AreTheRecords separator text)

-- What comes of these changes of a field file: the copy, or the fault.
abbrev pub Changes : List ℕ → List Change → Result (List ℕ) ChangeFault → Type 0
Changes gsi cs (Ok copy) = IsChanged gsi cs copy
Changes gsi cs (Err fault) = IsFault gsi cs fault

-- The status and the text are those of the changes that these bytes say, of this field file.
pub record IsChangeOf (gsi changes : List ℕ) (room answered : ℕ) (shown : List ℕ) : Type 0 where
  pub cs : List Change
  pub say : SayChanges changes cs
  pub answer : Result (List ℕ) ChangeFault
  pub answers : Changes gsi cs answer
  pub hands_out : HandsOut (status_of answer) (text_or change_line answer) room answered shown

-- The bytes say no changes: nothing is handed out, and the status says so.
pub record SaysNone (changes : List ℕ) (answered : ℕ) (shown : List ℕ) : Type 0 where
  pub none : (cs : List Change) → ¬ (SayChanges changes cs)
  pub status : answered ≡ OUT_OF_RANGE
  pub nothing : shown ≡ []

-- One of these is answered; or memory ran out for the changes, and the line says so.
abbrev pub IsChangeAnswer : List ℕ → List ℕ → ℕ → ℕ → List ℕ → Type 0
IsChangeAnswer gsi changes room answered shown =
    IsChangeOf gsi changes room answered shown
    ⊎ HandsOut REFUSED (change_line change.Memory) room answered shown
    ⊎ SaysNone changes answered shown
