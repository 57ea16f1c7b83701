-- How a request is answered: its files are opened, and its own run is made over them.
use Rattle.std.specs.Prelude.{◌≡◌, ◌⊎◌, ℕ, Bool, true, List, Option, Some, None, option_map, ⊤}
use Rattle.std.specs.Prelude.{codes, IfSome, Result, Ok, Err}
use Rattle.std.specs.Borrow.{Bor}
use Rattle.book_answers.specs.Refusals.{named_refusal_text}
use Rattle.book_answers.specs.Runs.{IsRunOfAll}
use Rattle.book_answers.specs.Tables.{IsRunOfTable}
use Rattle.book_answers.specs.Tables as of_all
use Rattle.book_answers.specs.declared.arrangement.Arrangement.TheVariants as arrangement
use Rattle.book_answers.specs.declared.part.PartAsked.{PartAsked}
use Rattle.book_answers.specs.declared.part.PartText.{PartText}
use Rattle.book_answers.specs.declared.part.PartText.TheVariants as part
use Rattle.changed_lines.specs.declared.change.Change.{Change}
use Rattle.byte_ends.specs.Sink.{WriterChange}
use Rattle.byte_ends.specs.Writers.{writer_change}
use Rattle.byte_ends.specs.declared.sink.Sink.{Ghosts}
use Rattle.byte_ends.specs.declared.source.Source.{Ghosts as Readers}
use Rattle.byte_ends.specs.Came.{BytesCame}
use Rattle.byte_ends.specs.Input.{input_within}
use Rattle.clap.specs.Words.{Text}
use Rattle.clap.specs.declared.error.Error.{Error}
use Rattle.command_line.specs.CommandLine.{Asked, IsAskedForBy, IsMistakeIn, NameAsked}
use Rattle.command_line.specs.declared.request.AllTableText.{AllTableText}
use Rattle.command_line.specs.declared.request.AllTableText.TheVariants as all_text
use Rattle.command_line.specs.declared.request.ColumnsStated.{ColumnsStated}
use Rattle.command_line.specs.declared.request.ColumnsStated.TheVariants as stated_by
use Rattle.command_line.specs.declared.request.Digests.{Digests}
use Rattle.command_line.specs.declared.request.Digests.TheVariants as digests
use Rattle.command_line.specs.declared.request.FieldStation.{FieldStation}
use Rattle.command_line.specs.declared.request.FieldStations.{FieldStations}
use Rattle.command_line.specs.declared.request.FormStated.{FormStated}
use Rattle.command_line.specs.declared.request.ListForm.TheVariants as form
use Rattle.command_line.specs.declared.request.Request.{Request}
use Rattle.command_line.specs.declared.request.Request.TheVariants as request
use Rattle.command_line.specs.declared.request.SheetCheck.{SheetCheck}
use Rattle.command_line.specs.declared.request.StationText.{StationText}
use Rattle.command_line.specs.declared.request.StationText.TheVariants as text
use Rattle.command_line.specs.declared.request.StationsBeside.{StationsBeside}
use Rattle.command_line.specs.declared.request.StationsText.{StationsText}
use Rattle.command_line.specs.declared.request.StationsText.TheVariants as texts
use Rattle.command_line.specs.declared.request.TableBeside.{TableBeside}
use Rattle.command_line.specs.declared.request.TableText.{TableText}
use Rattle.command_line.specs.declared.request.TableText.TheVariants as table_text
use Rattle.direction_table.specs.declared.form.ColumnPair.{ColumnPair}
use Rattle.direction_table.specs.declared.form.TableForm.{TableForm}
use Rattle.direction_table.specs.declared.reading.TheConstants.{LONGEST_TABLE}
use Rattle.instrument_reports.specs.Runs.{IsReportRowsRunOfAll, IsReportRowsRun}
use Rattle.instrument_reports.specs.Runs.{IsReportRun, IsReportsRun, IsTableReportRun}
use Rattle.list_rows.specs.Runs.{IsRowsRun}
use Rattle.only_station.specs.Only.{FindsOnly}
use Rattle.report_notes.specs.Notes.{notes_value}
use Rattle.report_notes.specs.declared.notes.Notes.{Notes}
use Rattle.station_answers.specs.Runs.{IsAnswerRun}
use Rattle.station_answers.specs.Saying.{SaysDirections}
use Rattle.station_book.specs.Limits.{FaceLimits}
use Rattle.station_check.specs.ListNotes.{unchecked_note}
use Rattle.station_check.specs.RunEndings.{Run, RunWithNotes, WritesOrFails}
use Rattle.station_check.specs.Runs.{IsCheckRun, IsMeansRun, IsNotedListRun, IsWordsRun}
use Rattle.station_check.specs.VerdictLines.{refusal_line}
use Rattle.station_check.specs.declared.fault.Fault.TheVariants.{Memory}
use Rattle.station_compare.specs.Refusals.{refusal_text}
use Rattle.station_compare.specs.declared.refusal.Refusal.{Refusal}
use Rattle.station_differences.specs.declared.line_form.LineForm.{LineForm}
use Rattle.station_differences.specs.declared.line_form.LineForm.TheVariants as line_form
use Rattle.station_explain.specs.Table.{Explanation}
use Rattle.station_change.specs.FaultTexts.{refusal_line as change_refusal_line}
use Rattle.station_change.specs.Notes.{notes_of}
use Rattle.station_change.specs.Runs.{IsChangeRun}
use Rattle.station_mark.specs.FaultTexts.{refusal_text as mark_refusal_text}
use Rattle.station_mark.specs.Runs.{IsMarkRun, notes_in}
use Rattle.command_run.specs.Explaining.{IsExplainRun}
use Rattle.command_run.specs.AsKnown.{IsAsKnown}
use Rattle.command_run.specs.Hosts.{Files, Known, IsNew, IsUnread, IsTakenIn, change_of}
use Rattle.command_run.specs.Unopened.{there_line, unopened_line}
use Rattle.command_run.specs.declared.host.NoWords.{NoWords}
use Rattle.command_run.specs.declared.host.NoWords.TheVariants as no_words
use Rattle.command_run.specs.StationNames.{name_bytes}
use Rattle.command_run.specs.declared.hindrance.Hindrance.{Hindrance}
use Rattle.command_run.specs.declared.hindrance.Hindrance.TheVariants as hindrance
use Rattle.command_run.specs.declared.station_name.StationName.{StationName}
use Rattle.job_statements.specs.declared.beginnings.Beginnings.{Beginnings}
use Rattle.job_statements.specs.Numbers.{Said, said_in}
use Rattle.station_record.specs.Recorded.{IsRecordedCheck, IsRecordedCompare, IsRecordedReport}
use Rattle.station_record.specs.Recorded.{IsRecordedTableReport}
use Rattle.station_record.specs.Rows.{AreRecordedRows}
use Rattle.station_report.specs.NoteTexts.{ReportHead}
use Rattle.station_record.specs.declared.named.NamedReader.{NamedReader}
use Rattle.table_answers.specs.Comparisons.{IsCompareRun}
use Rattle.table_answers.specs.Printing.{PrintsText}
use Rattle.table_answers.specs.Refusing.{RefusesDifferences}
use Rattle.table_answers.specs.Runs.{IsTableRun}
use Rattle.table_answers.specs.Saying.{SaysDifferences}
use Rattle.table_answers.specs.Telling.{RunTold}
use Rattle.table_report.specs.Stating.{ReportAsked}
use Rattle.table_titles.specs.FaultTexts.{titles_line}
use Rattle.table_titles.specs.TitledInput.{ComesOfInput}
use Rattle.table_titles.specs.declared.fault.TitlesFault.{TitlesFault}

-- A sheet was checked against a field file with this exit status, and this is what the run made of
-- the two sinks. It is recorded, under the names of the files, exactly where digests are asked for.
abbrev pub ChecksSheet : {F : Type 0} → Readers F → WriterChange → WriterChange
    → SheetCheck (NamedReader F) → Digests → ℕ → Type 0
ChecksSheet {F} files out err asked digests.Omitted status =
    (sheet' : F) × IsTakenIn files asked.gsi.reader (λ gsi. Run {A = ⊤} refusal_line
    (IsCheckRun asked.limits asked.residual gsi (change_of files asked.sheet.reader sheet'))
    status out err)
ChecksSheet files out err asked digests.Printed status =
    IsTakenIn files asked.gsi.reader (λ gsi. IsTakenIn files asked.sheet.reader (λ sheet.
    Run {A = ⊤} refusal_line (IsRecordedCheck asked.limits asked.residual
    gsi asked.gsi.name.now sheet asked.sheet.name.now) status out err))

-- What stands in the head of a report: the name that the field file has, and these notes.
abbrev pub head_with : List ℕ → Notes → ReportHead
head_with name notes = record { path = name; notes = notes_value notes }

-- A text of a station of a field file was printed with this exit status; all else as at a check.
abbrev pub PrintsStation : {F : Type 0} → Readers F → WriterChange → WriterChange
    → FieldStation (NamedReader F) StationName → StationText → ℕ → Type 0
PrintsStation files out err its (text.Directions decimals form) status =
    IsTakenIn files its.gsi.reader (λ gsi. Run {A = ⊤} refusal_text
    (IsAnswerRun (SaysDirections form decimals) its.limits gsi (name_bytes its.name))
    status out err)
PrintsStation files out err its (text.Report digests.Omitted notes) status =
    IsTakenIn files its.gsi.reader (λ gsi. Run {A = ⊤} refusal_text
    (IsReportRun (head_with its.gsi.name.now notes) its.limits gsi (name_bytes its.name))
    status out err)
PrintsStation files out err its (text.Report digests.Printed notes) status =
    IsTakenIn files its.gsi.reader (λ gsi. Run {A = ⊤} refusal_text
    (IsRecordedReport (head_with its.gsi.name.now notes) its.limits gsi (name_bytes its.name))
    status out err)
PrintsStation files out err its (text.ReportRows digests.Omitted rows) status =
    IsTakenIn files its.gsi.reader (λ gsi. Run {A = ⊤} refusal_text
    (IsReportRowsRun rows its.limits gsi (name_bytes its.name)) status out err)
PrintsStation files out err its (text.ReportRows digests.Printed rows) status =
    IsTakenIn files its.gsi.reader (λ gsi. Run {A = ⊤} refusal_text
    (AreRecordedRows rows its.gsi.name.now its.limits gsi (name_bytes its.name)) status out err)

-- A text of all stations of a field file was printed with this exit status, as one text of those
-- that each alone has.
abbrev pub PrintsStations : {F : Type 0} → Readers F → WriterChange → WriterChange
    → FieldStations (NamedReader F) → StationsText → ℕ → Type 0
PrintsStations files out err all (texts.Directions decimals form) status =
    IsTakenIn files all.gsi.reader (λ gsi. Run {A = ⊤} named_refusal_text
    (IsRunOfAll (SaysDirections form decimals) all.limits (arrangement.NamedDirections form) gsi)
    status out err)
PrintsStations files out err all (texts.Reports notes) status =
    IsTakenIn files all.gsi.reader (λ gsi. Run {A = ⊤} named_refusal_text
    (IsReportsRun (head_with all.gsi.name.now notes) all.limits gsi) status out err)
PrintsStations files out err all (texts.ReportRows rows) status =
    IsTakenIn files all.gsi.reader (λ gsi. Run {A = ⊤} named_refusal_text
    (IsReportRowsRunOfAll rows all.limits gsi) status out err)

-- what is asked of a report with a table: its files by the names that they have, and its notes
abbrev pub asked_of : {F : Type 0} → TableBeside (NamedReader F) StationName TableForm → Option ℕ
    → Notes → ReportAsked
asked_of its within notes = record {
  head = head_with its.station.gsi.name.now notes;
  table_path = its.file.name.now;
  form = its.form;
  within = within;
}

-- The differences of a table from a station were printed with this exit status, with their lines
-- written so.
abbrev pub PrintsDifferences : {F : Type 0} → Readers F → WriterChange → WriterChange
    → TableBeside (NamedReader F) StationName TableForm → LineForm → ℕ → Type 0
PrintsDifferences {F} files out err its written status =
    (table' : F) × IsTakenIn files its.station.gsi.reader (λ gsi. RunTold {A = ⊤}
    (IsTableRun (SaysDifferences its.form written) (RefusesDifferences its.form its.station.limits)
    PrintsText its.form its.station.limits gsi (change_of files its.file.reader table')
    (name_bytes its.station.name)) status out err)

-- A text of a station and of a table was printed with this exit status.
abbrev pub PrintsBeside : {F : Type 0} → Readers F → WriterChange → WriterChange
    → TableBeside (NamedReader F) StationName TableForm → TableText → ℕ → Type 0
PrintsBeside {F} files out err its (table_text.Comparison within digests.Omitted) status =
    (table' : F) × IsTakenIn files its.station.gsi.reader (λ gsi. RunTold {A = ⊤}
    (IsCompareRun its.form its.station.limits within gsi (change_of files its.file.reader table')
    (name_bytes its.station.name)) status out err)
PrintsBeside files out err its (table_text.Comparison within digests.Printed) status =
    IsTakenIn files its.station.gsi.reader (λ gsi. IsTakenIn files its.file.reader (λ table.
    RunTold {A = ⊤}
    (IsRecordedCompare its.form its.station.limits within (name_bytes its.station.name)
    gsi its.station.gsi.name.now table its.file.name.now) status out err))
PrintsBeside files out err its (table_text.Differences rows) status =
    PrintsDifferences files out err its (line_form.Rows rows) status
PrintsBeside files out err its table_text.JsonLines status =
    PrintsDifferences files out err its line_form.JsonLines status
PrintsBeside {F} files out err its (table_text.Report within digests.Omitted notes) status =
    (table' : F) × IsTakenIn files its.station.gsi.reader (λ gsi. RunTold {A = ⊤}
    (IsTableReportRun (asked_of its within notes) its.station.limits gsi
    (change_of files its.file.reader table') (name_bytes its.station.name)) status out err)
PrintsBeside files out err its (table_text.Report within digests.Printed notes) status =
    IsTakenIn files its.station.gsi.reader (λ gsi. IsTakenIn files its.file.reader (λ table.
    RunTold {A = ⊤} (IsRecordedTableReport (asked_of its within notes)
    its.station.limits gsi table (name_bytes its.station.name)) status out err))

-- What is asked of each station and of its part of one table of all.
abbrev pub part_text : AllTableText → PartText
part_text (all_text.Comparison within) = part.Comparison within
part_text (all_text.Differences rows) = part.Differences rows

abbrev pub part_asked : {F : Type 0} → StationsBeside F TableForm → AllTableText → PartAsked
part_asked its text = record { form = its.form; text = part_text text }

-- A text of all stations of a field file and of one table of them was printed with this exit
-- status.
abbrev pub PrintsTableOfAll : {F : Type 0} → Readers F → WriterChange → WriterChange
    → StationsBeside (NamedReader F) TableForm → AllTableText → ℕ → Type 0
PrintsTableOfAll {F} files out err its text status =
    (table' : F) × IsTakenIn files its.stations.gsi.reader (λ gsi. RunWithNotes of_all.notes_of
    named_refusal_text (IsRunOfTable (part_asked its text) its.stations.limits gsi
    (change_of files its.file.reader table')) status out err)

-- A copy with codes was made of a field file with this exit status: it went to `out`; or to a new
-- file, and nothing is asked of `out`.
abbrev pub MarksFile : {F N : Type 0} → Readers F → Ghosts N → WriterChange → WriterChange
    → NamedReader F → Option N → Beginnings → Said → ℕ → Type 0
MarksFile files new_files out err gsi None beginnings stated status =
    IsTakenIn files gsi.reader (λ gsi. RunWithNotes notes_in mark_refusal_text
    (IsMarkRun beginnings stated gsi) status out err)
MarksFile {F} {N} files new_files out err gsi (Some copy) beginnings stated status =
    out.is_unasked × (copy' : N) × IsTakenIn files gsi.reader (λ gsi. RunWithNotes notes_in
    mark_refusal_text (IsMarkRun beginnings stated gsi) status
    (writer_change new_files copy copy') err)

-- A copy with changed lines was made of a field file with this exit status: it went to `out`; or to
-- a new file, and nothing is asked of `out`.
abbrev pub ChangesFile : {F N : Type 0} → Readers F → Ghosts N → WriterChange → WriterChange
    → NamedReader F → Option N → List Change → ℕ → Type 0
ChangesFile files new_files out err gsi None changes status =
    IsTakenIn files gsi.reader (λ gsi. RunWithNotes (notes_of changes) change_refusal_line
    (IsChangeRun changes gsi) status out err)
ChangesFile {F} {N} files new_files out err gsi (Some copy) changes status =
    out.is_unasked × (copy' : N) × IsTakenIn files gsi.reader (λ gsi. RunWithNotes
    (notes_of changes) change_refusal_line (IsChangeRun changes gsi) status
    (writer_change new_files copy copy') err)

-- A request whose files are open was answered with this exit status: by a run of its own kind, over
-- its own files, or over standard input where it names none, with all that it states; and this is
-- what the run made of the two sinks.
abbrev pub IsRun : {F N I : Type 0} → Readers F → Ghosts N → Readers I → I
    → List (Bor (List Explanation)) → WriterChange → WriterChange
    → Request (NamedReader F) N StationName TableForm → ℕ → Type 0
IsRun files new_files inputs input faults out err (request.Check asked) status =
    ChecksSheet files out err asked asked.digests status
IsRun files new_files inputs input faults out err (request.Means gsi station limits) status =
    IsTakenIn files gsi.reader (λ gsi. Run {A = ⊤} refusal_line
    (IsMeansRun limits gsi (name_bytes station)) status out err)
IsRun files new_files inputs input faults out err (request.Station station text) status =
    PrintsStation files out err station text status
IsRun files new_files inputs input faults out err (request.Stations stations text) status =
    PrintsStations files out err stations text status
IsRun files new_files inputs input faults out err (request.Table beside text) status =
    PrintsBeside files out err beside text status
IsRun files new_files inputs input faults out err (request.StationsTable beside text) status =
    PrintsTableOfAll files out err beside text status
IsRun files new_files inputs input faults out err (request.Mark gsi copy beginnings stated) status =
    MarksFile files new_files out err gsi copy beginnings (said_in stated) status
IsRun files new_files inputs input faults out err (request.Change gsi copy changes) status =
    ChangesFile files new_files out err gsi copy changes.items status
IsRun files new_files inputs input faults out err (request.List gsi limits form.Lines) status =
    IsTakenIn files gsi.reader (λ gsi. RunWithNotes unchecked_note refusal_line
    (IsNotedListRun limits gsi) status out err)
IsRun files new_files inputs input faults out err (request.List gsi limits (form.Rows rows)) status =
    IsTakenIn files gsi.reader (λ gsi. RunWithNotes unchecked_note refusal_line
    (IsRowsRun rows limits gsi) status out err)
IsRun files new_files inputs input faults out err (request.Words gsi) status =
    IsTakenIn files gsi.reader (λ gsi. Run refusal_line (IsWordsRun gsi) status out err)
IsRun files new_files inputs input faults out err request.WordsOfInput status =
    IsTakenIn inputs input (λ gsi. Run refusal_line (IsWordsRun gsi) status out err)
IsRun files new_files inputs input faults out err (request.Explain fault) status =
    Run {A = ⊤} refusal_line (IsExplainRun faults (option_map (λ e. e.now) fault)) status out err

-- A new file stands exactly where a path for one is stated, and is the one of it.
abbrev pub IsNewFile : {N : Type 0} → Ghosts N → (List ℕ → Option (List ℕ))
    → Option (Bor (List ℕ)) → Option N → Type 0
IsNewFile seen known None None = ⊤
IsNewFile seen known (Some path) (Some file) = IsNew seen known path.now file
IsNewFile seen known stated file = ⊥

-- The two files of a check were opened, and all else of it is as it was asked for.
abbrev pub IsOpenedCheck : {F : Type 0} → Files F → SheetCheck (Bor (List ℕ))
    → SheetCheck (NamedReader F) → Type 0
IsOpenedCheck files asked opened =
    IsUnread files asked.gsi.now opened.gsi
    × IsUnread files asked.sheet.now opened.sheet
    × (opened.limits ≡ asked.limits) × (opened.residual ≡ asked.residual)
    × (opened.digests ≡ asked.digests)

-- The only station of the field file of a path was looked for by these limits, and this is what was
-- answered.
abbrev pub LooksForOnly : {F : Type 0} → Files F → FaceLimits → List ℕ → Result (List ℕ) Refusal
    → Type 0
LooksForOnly {F} files limits path r = (file : NamedReader F)
    × IsUnread files path file
    × IsTakenIn files.seen file.reader (λ gsi. FindsOnly limits gsi r)

-- A station of the field file of a path has the name that is stated; where none is stated, that of
-- the only station of the file.
abbrev pub IsNamed : {F : Type 0} → Files F → FaceLimits → List ℕ → NameAsked → StationName → Type 0
IsNamed files limits path (Some stated) name = name_bytes name ≡ stated.now
IsNamed files limits path None name = LooksForOnly files limits path (Ok (name_bytes name))

-- The columns of the table of a path were looked for by these titles, and this is what was
-- answered.
abbrev pub LooksForTitles : {F : Type 0} → Files F → List ℕ → List ℕ → List ℕ
    → Result ColumnPair TitlesFault → Type 0
LooksForTitles {F} files path targets directions r = (file : NamedReader F) × (read : F)
    × IsUnread files path file
    × BytesCame (change_of files.seen file.reader read)
    (λ gives. ComesOfInput targets directions (input_within LONGEST_TABLE gives) r)

-- The columns of the table of a path are those that are stated by numbers, or none; where they are
-- stated by titles, those that have them.
abbrev pub AreColumns : {F : Type 0} → Files F → List ℕ → Option ColumnsStated → Option ColumnPair
    → Type 0
AreColumns files path None columns = columns ≡ None
AreColumns files path (Some (stated_by.Numbers pair)) columns = columns ≡ Some pair
AreColumns files path (Some (stated_by.Titles targets directions)) columns =
    (pair : ColumnPair) × (columns ≡ Some pair)
    × LooksForTitles files path targets.now directions.now (Ok pair)

-- The table of a path is read as it is stated.
abbrev pub IsFormOf : {F : Type 0} → Files F → List ℕ → FormStated → TableForm → Type 0
IsFormOf files path stated form =
    (form.unit ≡ stated.unit) × AreColumns files path stated.columns form.columns

-- The field file of a station was opened, the station has its name, and its limits are those that
-- were asked for.
abbrev pub IsOpenedStation : {F : Type 0} → Files F → FieldStation (Bor (List ℕ)) NameAsked
    → FieldStation (NamedReader F) StationName → Type 0
IsOpenedStation files asked opened =
    IsUnread files asked.gsi.now opened.gsi
    × IsNamed files asked.limits.faces asked.gsi.now asked.name opened.name
    × (opened.limits ≡ asked.limits)

-- The field file of all stations was opened, and their limits are those that were asked for.
abbrev pub IsOpenedStations : {F : Type 0} → Files F → FieldStations (Bor (List ℕ))
    → FieldStations (NamedReader F) → Type 0
IsOpenedStations files asked opened =
    IsUnread files asked.gsi.now opened.gsi × (opened.limits ≡ asked.limits)

-- Both files of a table and its station were opened, the station has its name, and the table is
-- read as it is stated.
abbrev pub IsOpenedBeside : {F : Type 0} → Files F → TableBeside (Bor (List ℕ)) NameAsked FormStated
    → TableBeside (NamedReader F) StationName TableForm → Type 0
IsOpenedBeside files asked opened =
    IsOpenedStation files asked.station opened.station
    × IsUnread files asked.file.now opened.file
    × IsFormOf files asked.file.now asked.form opened.form

-- The same of all stations and one table of them.
abbrev pub IsOpenedTableOfAll : {F : Type 0} → Files F → StationsBeside (Bor (List ℕ)) FormStated
    → StationsBeside (NamedReader F) TableForm → Type 0
IsOpenedTableOfAll files asked opened =
    IsOpenedStations files asked.stations opened.stations
    × IsUnread files asked.file.now opened.file
    × IsFormOf files asked.file.now asked.form opened.form

-- The files of a request were opened, each the one of its path, which is its name; the name of its
-- station and the columns of its table were found, where they were to be; and all else of it is as
-- it was asked for.
abbrev pub IsOpened : {F N : Type 0} → Files F → Ghosts N → (List ℕ → Option (List ℕ)) → Asked
    → Request (NamedReader F) N StationName TableForm → Type 0
IsOpened files new_files new (request.Check asked) (request.Check opened) =
    IsOpenedCheck files asked opened
IsOpened files new_files new (request.Means gsi station limits)
    (request.Means field_file station' limits') =
    IsUnread files gsi.now field_file
    × IsNamed files limits gsi.now station station' × (limits' ≡ limits)
IsOpened files new_files new (request.Station station text) (request.Station station' text') =
    IsOpenedStation files station station' × (text' ≡ text)
IsOpened files new_files new (request.Stations stations text)
    (request.Stations stations' text') =
    IsOpenedStations files stations stations' × (text' ≡ text)
IsOpened files new_files new (request.Table beside text) (request.Table beside' text') =
    IsOpenedBeside files beside beside' × (text' ≡ text)
IsOpened files new_files new (request.StationsTable beside text)
    (request.StationsTable beside' text') =
    IsOpenedTableOfAll files beside beside' × (text' ≡ text)
IsOpened files new_files new (request.Mark gsi copy beginnings stated)
    (request.Mark field_file copy' beginnings' stated') =
    IsUnread files gsi.now field_file
    × IsNewFile new_files new copy copy' × (beginnings' ≡ beginnings) × (stated' ≡ stated)
IsOpened files new_files new (request.Change gsi copy changes)
    (request.Change field_file copy' changes') =
    IsUnread files gsi.now field_file
    × IsNewFile new_files new copy copy' × (changes' ≡ changes)
IsOpened files new_files new (request.List gsi limits form)
    (request.List field_file limits' form') =
    IsUnread files gsi.now field_file × (limits' ≡ limits) × (form' ≡ form)
IsOpened files new_files new (request.Words gsi) (request.Words field_file) =
    IsUnread files gsi.now field_file
IsOpened files new_files new request.WordsOfInput request.WordsOfInput = ⊤
IsOpened files new_files new (request.Explain fault) (request.Explain fault') = fault' ≡ fault
IsOpened files new_files new asked other = ⊥

-- The file of this path was opened.
abbrev pub WasOpened : {F : Type 0} → Files F → List ℕ → Type 0
WasOpened {F} files path = (file : NamedReader F) × IsUnread files path file

-- The file of this path may be one that can't be opened, and hinders.
abbrev pub IsUnopened : {F : Type 0} → Files F → List ℕ → Hindrance → Type 0
IsUnopened files path (hindrance.Unopened unopened) =
    (unopened.path.now ≡ path) × (files.may_not_open path ≡ true)
IsUnopened files path other = ⊥

-- One of two files hinders so: the first; or the second, and the first was opened.
abbrev pub IsUnopenedOfTwo : {F : Type 0} → Files F → List ℕ → List ℕ → Hindrance → Type 0
IsUnopenedOfTwo files first second why =
    IsUnopened files first why
    ⊎ (WasOpened files first × IsUnopened files second why)

-- The name of a station is left out, and the field file of this path is refused where its only
-- station was looked for.
abbrev pub LacksName : {F : Type 0} → Files F → FaceLimits → List ℕ → NameAsked → Hindrance → Type 0
LacksName files limits path name (hindrance.Station refusal) =
    (name ≡ None) × LooksForOnly files limits path (Err refusal)
LacksName files limits path name other = ⊥

-- What hinders a run of a station of the field file of this path: that it can't be opened, or that.
abbrev pub HindersStation : {F : Type 0} → Files F → FaceLimits → List ℕ → NameAsked → Hindrance
    → Type 0
HindersStation files limits path name why =
    IsUnopened files path why ⊎ LacksName files limits path name why

-- The table of this path is refused where its columns were looked for by these titles.
abbrev pub LacksTitles : {F : Type 0} → Files F → List ℕ → List ℕ → List ℕ → Hindrance → Type 0
LacksTitles files path targets directions (hindrance.Columns fault) =
    LooksForTitles files path targets directions (Err fault)
LacksTitles files path targets directions other = ⊥

-- What hinders there: that the table can't be opened, or that.
abbrev pub HindersTitles : {F : Type 0} → Files F → List ℕ → List ℕ → List ℕ → Hindrance → Type 0
HindersTitles files path targets directions why =
    IsUnopened files path why ⊎ LacksTitles files path targets directions why

-- What hinders a run of the table of this path, of which these columns are stated: that it can't be
-- opened; or they are stated by titles, and that hinders.
abbrev pub HindersTable : {F : Type 0} → Files F → List ℕ → Option ColumnsStated → Hindrance
    → Type 0
HindersTable files path stated why =
    IsUnopened files path why
    ⊎ ((targets directions : Bor (List ℕ))
    × (stated ≡ Some (stated_by.Titles targets directions))
    × LacksTitles files path targets.now directions.now why)

-- What hinders a run of a table beside its station: what hinders one of the station; or one of the
-- table, and the field file was opened and the name of the station is known.
abbrev pub HindersBeside : {F : Type 0} → Files F → TableBeside (Bor (List ℕ)) NameAsked FormStated
    → Hindrance → Type 0
HindersBeside {F} files asked why =
    HindersStation files asked.station.limits.faces asked.station.gsi.now
    asked.station.name why
    ⊎ ((station : FieldStation (NamedReader F) StationName)
    × IsOpenedStation files asked.station station
    × HindersTable files asked.file.now asked.form.columns why)

-- The same of all stations and one table of them.
abbrev pub HindersTableOfAll : {F : Type 0} → Files F → StationsBeside (Bor (List ℕ)) FormStated
    → Hindrance → Type 0
HindersTableOfAll files asked why =
    IsUnopened files asked.stations.gsi.now why
    ⊎ (WasOpened files asked.stations.gsi.now
    × HindersTable files asked.file.now asked.form.columns why)

-- What hinders a run of a request before its files are open.
abbrev pub HindersOpening : {F : Type 0} → Files F → Asked → Hindrance → Type 0
HindersOpening files (request.Check asked) why =
    IsUnopenedOfTwo files asked.gsi.now asked.sheet.now why
HindersOpening files (request.Means gsi station limits) why =
    HindersStation files limits gsi.now station why
HindersOpening files (request.Station station text) why =
    HindersStation files station.limits.faces station.gsi.now station.name why
HindersOpening files (request.Stations stations text) why = IsUnopened files stations.gsi.now why
HindersOpening files (request.Table beside text) why = HindersBeside files beside why
HindersOpening files (request.StationsTable beside text) why = HindersTableOfAll files beside why
HindersOpening files (request.Mark gsi copy beginnings stated) why = IsUnopened files gsi.now why
HindersOpening files (request.Change gsi copy changes) why = IsUnopened files gsi.now why
HindersOpening files (request.List gsi limits form) why = IsUnopened files gsi.now why
HindersOpening files (request.Words gsi) why = IsUnopened files gsi.now why
HindersOpening files request.WordsOfInput why = ⊥
HindersOpening files (request.Explain fault) why = ⊥

-- The path of the new file that a request asks for.
abbrev pub new_path : Asked → Option (List ℕ)
new_path (request.Mark gsi copy beginnings stated) = option_map (λ path. path.now) copy
new_path (request.Change gsi copy changes) = option_map (λ path. path.now) copy
new_path asked = None

-- A new file is to have this path, and the file of it was opened, so it is there already.
abbrev pub IsThereAlready : {F : Type 0} → Files F → Asked → Hindrance → Type 0
IsThereAlready files asked (hindrance.IsThere path) =
    (new_path asked ≡ Some path.now) × WasOpened files path.now
IsThereAlready files asked other = ⊥

-- Where a new file is to be made, the file of its path may be one that can't be opened: so none is
-- there yet.
abbrev pub IsNoneThere : {F : Type 0} → Files F → Asked → Type 0
IsNoneThere files asked = IfSome (new_path asked) (λ path. files.may_not_open path ≡ true)

-- What hinders a run of a request: that the new file is there already; or, where none is, what
-- comes before its files are open.
abbrev pub Hinders : {F N I : Type 0} → Known F N I → Asked → Hindrance → Type 0
Hinders host asked why = IsThereAlready host.files asked why
    ⊎ (IsNoneThere host.files asked
    × HindersOpening host.files asked why)

-- A request was answered with this exit status: no file was there yet of the path of a new one; its
-- files were opened, each the one of its path, and its run was made over them, or over standard
-- input.
pub record IsAnswered {F N I : Type 0} (host : Known F N I)
    (faults : List (Bor (List Explanation))) (out err : WriterChange) (asked : Asked)
    (status : ℕ) : Type 0 where
  pub none_there : IsNoneThere host.files asked
  pub opened : Request (NamedReader F) N StationName TableForm
  pub of_files : IsOpened host.files host.new_files host.new_file asked opened
  pub run : IsRun host.files.seen host.new_files host.inputs host.input faults out err opened status

-- The exit status is 1, and the line that memory ran out went to `err`.
abbrev pub IsOutOfMemory : ℕ → WriterChange → Type 0
IsOutOfMemory status err = (status ≡ 1) × WritesOrFails (refusal_line Memory) err

-- The exit status is 2, and the line of this path went to `err`; or memory ran out for the line.
abbrev pub NamesUnopened : List ℕ → ℕ → WriterChange → Type 0
NamesUnopened path status err =
    ((status ≡ 2) × WritesOrFails (unopened_line path) err) ⊎ IsOutOfMemory status err

-- The exit status is 2, and the line that a file of this path is there already went to `err`; or
-- memory ran out for the line.
abbrev pub NamesThere : List ℕ → ℕ → WriterChange → Type 0
NamesThere path status err =
    ((status ≡ 2) × WritesOrFails (there_line path) err) ⊎ IsOutOfMemory status err

-- What is told of a hindrance, with this exit status: the path of a file that can't be opened, or
-- is there already; or, with status 1, the refusal of the field file or of the table.
abbrev pub TellsHindrance : Hindrance → ℕ → WriterChange → Type 0
TellsHindrance (hindrance.Unopened unopened) status err =
    NamesUnopened unopened.path.now status err
TellsHindrance (hindrance.IsThere path) status err = NamesThere path.now status err
TellsHindrance (hindrance.Station refusal) status err =
    (status ≡ 1) × WritesOrFails (refusal_text refusal) err
TellsHindrance (hindrance.Columns fault) status err =
    (status ≡ 1) × WritesOrFails (titles_line fault) err

-- A request is hindered: what hinders it is told on `err`, and nothing is asked of `out`.
pub record IsHindered {F N I : Type 0} (host : Known F N I) (out err : WriterChange)
    (asked : Asked) (status : ℕ) : Type 0 where
  pub hindrance : Hindrance
  pub why : Hinders host asked hindrance
  pub told : TellsHindrance hindrance status err
  pub unwritten : out.is_unasked

-- The words of a command line ask for a request, which was answered with this exit status, or is
-- hindered.
pub record IsStatusOfWords {F N I : Type 0} (host : Known F N I)
    (faults : List (Bor (List Explanation))) (out err : WriterChange)
    (words : List Text) (status : ℕ) : Type 0 where
  pub asked : Asked
  pub of_words : IsAskedForBy words faults asked
  pub answered : IsAnswered host faults out err asked status
      ⊎ IsHindered host out err asked status

-- what is told where an argument is no text
abbrev pub not_text : List ℕ
not_text = codes "error: an argument is not UTF-8 text\n\nA file of such a name can be passed as standard input: station_check list /dev/stdin < FILE\n\nFor more information, try '--help'.\n"

-- The words of the command line are lacking for this reason: with status 1 memory ran out, and with
-- status 2 an argument is no text.
abbrev pub LacksWords : NoWords → ℕ → WriterChange → Type 0
LacksWords no_words.OutOfMemory status err = IsOutOfMemory status err
LacksWords no_words.NotText status err = (status ≡ 2) × WritesOrFails not_text err

-- The exit status of a run: that of the words of its command line, which are the known ones; or
-- they are lacking for a reason that may be.
abbrev pub IsStatusOfRun : {F N I : Type 0} → Known F N I → List (Bor (List Explanation))
    → WriterChange → WriterChange → ℕ → Type 0
IsStatusOfRun host faults out err status =
    ((words : List Text) × IsAsKnown host.words words
    × IsStatusOfWords host faults out err words status)
    ⊎ ((reason : NoWords) × (host.may_lack reason ≡ true) × out.is_unasked
    × LacksWords reason status err)

-- The words of the command line, which are the known ones, are answered with this error in the
-- place of a run.
pub record IsMistakenRun {F N I : Type 0} (host : Known F N I)
    (faults : List (Bor (List Explanation))) (error : Error) : Type 0 where
  pub words : List Text
  pub known : IsAsKnown host.words words
  pub mistake : IsMistakeIn words faults error
