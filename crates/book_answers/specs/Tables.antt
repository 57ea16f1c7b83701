-- What is answered of all stations of a field file and of a table of their directions: of each what
-- is answered of it alone and of its part of the table.
use Rattle.std.specs.Prelude.{◌≡◌, ℕ, false, List, [], Option, Some, None, Result, Ok, Err, IfOk}
use Rattle.book_answers.specs.Answers.{IsFirstOfEach, IsRefusedAlone, StatesEach}
use Rattle.book_answers.specs.Columns.{form_in_part}
use Rattle.book_answers.specs.Notes.{AreNotes, IsPartNote}
use Rattle.book_answers.specs.PartTexts.{in_whole}
use Rattle.book_answers.specs.Refusals.{fault_of, of_no_one}
use Rattle.book_answers.specs.declared.answering.NotedText.{NotedText}
use Rattle.book_answers.specs.declared.arrangement.Arrangement.{Arrangement}
use Rattle.book_answers.specs.declared.arrangement.Arrangement.TheVariants.{Lines}
use Rattle.book_answers.specs.declared.arrangement.Arrangement.TheVariants.{NamedDifferences}
use Rattle.book_answers.specs.declared.part.PartAsked.{PartAsked}
use Rattle.book_answers.specs.declared.part.PartText.{PartText}
use Rattle.book_answers.specs.declared.part.PartText.TheVariants.{Comparison, Differences}
use Rattle.book_answers.specs.declared.refusal.StationRefusal.{StationRefusal}
use Rattle.byte_ends.specs.Input.{BrokeOff, Ended, RanPast, input_within}
use Rattle.byte_ends.specs.Sink.{WriterChange}
use Rattle.byte_ends.specs.Source.{ReaderChange, Told}
use Rattle.direction_table.specs.declared.fault.RowKind.TheVariants.{Unknown}
use Rattle.direction_table.specs.declared.fault.TableFault.TheVariants.{Row, TooLong}
use Rattle.direction_table.specs.declared.form.TableForm.{TableForm}
use Rattle.gsi_file.specs.FileAnswers.{FileAnswers}
use Rattle.station_book.specs.Stations.{SurveyedStation}
use Rattle.station_book.specs.declared.result_limits.ResultLimits.{ResultLimits}
use Rattle.station_check.specs.NotedSurveys.{IsNotedSurvey}
use Rattle.station_check.specs.RunEndings.{PrintsAnswer}
use Rattle.station_check.specs.Surveys.{IsSurvey}
use Rattle.station_compare.specs.AgreementTexts.{agreement_line}
use Rattle.station_compare.specs.Answers.{Compares}
use Rattle.station_compare.specs.HintTexts.{stations_hint}
use Rattle.station_compare.specs.Hints.{IsHintOf}
use Rattle.station_compare.specs.declared.agreement.Agreement.{Agreement}
use Rattle.station_compare.specs.declared.fault.CompareFault.{CompareFault}
use Rattle.station_compare.specs.declared.fault.CompareFault.TheVariants.{File, Memory, Table}
use Rattle.station_compare.specs.declared.fault.CompareFault.TheVariants.{TableRead, Write}
use Rattle.station_compare.specs.declared.refusal.Refusal.{Refusal}
use Rattle.station_differences.specs.declared.line_form.LineForm.TheVariants.{Rows}
use Rattle.station_tables.specs.Lines.{lines_of}
use Rattle.station_tables.specs.Parts.{part_of}
use Rattle.station_tables.specs.Strays.{first_stray}
use Rattle.station_tables.specs.declared.line.TheConstants.{LONGEST_TABLES}
use Rattle.table_answers.specs.Answers.{ReadsBoth, TellsBeside}
use Rattle.table_answers.specs.Refusing.{RefusesDifferences}
use Rattle.table_answers.specs.Saying.{SaysDifferences}

-- What a reader of the part of the station of this name alone tells: its bytes, and that they end.
abbrev pub told_part : List ℕ → List ℕ → Told
told_part table name = record { bytes = part_of name (lines_of table); fails = false }

-- What is answered of the station of this name and of what a table's reader tells: the line of
-- their agreement, or the differences; or why there is none.
abbrev pub TellsText : TableForm → PartText → ResultLimits → FileAnswers → Told → List ℕ
    → Result (List ℕ) CompareFault → Type 0
TellsText form (Comparison within) limits file stated name (Ok text) =
    (a : Agreement) × Compares form limits file stated name within (Ok a)
    × (text ≡ agreement_line a)
TellsText form (Comparison within) limits file stated name (Err fault) =
    Compares form limits file stated name within (Err fault)
TellsText form (Differences rows) limits file stated name r =
    TellsBeside (SaysDifferences form (Rows rows)) (RefusesDifferences form limits) limits file
    stated name r

-- The same of the station and its part of the table, where they alone are asked for.
abbrev pub TellsPart : PartAsked → ResultLimits → FileAnswers → List ℕ → List ℕ
    → Result (List ℕ) CompareFault → Type 0
TellsPart asked limits file table name r =
    TellsText (form_in_part asked.form) asked.text limits file (told_part table name) name r

-- how the texts make one: lines, or rows behind the names of stations below titles
abbrev pub arrangement_of : PartText → Arrangement
arrangement_of (Comparison within) = Lines
arrangement_of (Differences rows) = NamedDifferences rows

-- A refusal of the station of this name: what it alone is refused with, with the hint of that, but
-- that rows and columns are counted by those of the whole table.
pub record IsRefusedPart (asked : PartAsked) (limits : ResultLimits) (file : FileAnswers)
    (table name : List ℕ) (refusal : Refusal) : Type 0 where
  pub fault : CompareFault
  pub tells : TellsPart asked limits file table name (Err fault)
  pub hint : IsHintOf limits file name fault refusal.hint
  pub told : refusal.fault ≡ in_whole (lines_of table) name fault

-- Each line of the table in which something stands, but one of titles, is of one station of the
-- file.
pub record HasNoStray (limits : ResultLimits) (file : FileAnswers) (table : List ℕ) : Type 0 where
  pub stations : List SurveyedStation
  pub survey : IsSurvey limits.faces file stations
  pub none : first_stray stations (lines_of table) ≡ None

-- These are the notes of all stations of the file and of their parts, in their order.
pub record HasNotes (form : TableForm) (limits : ResultLimits) (file : FileAnswers)
    (table notes : List ℕ) : Type 0 where
  pub stations : List SurveyedStation
  pub survey : IsSurvey limits.faces file stations
  pub notes_are : AreNotes (IsPartNote form (lines_of table)) stations notes

-- This is the one text of all stations of the file and of the table, which was read to its end, and
-- these are its notes.
pub record StatesTexts (asked : PartAsked) (limits : ResultLimits) (file : FileAnswers)
    (stated : Told) (told : NotedText) : Type 0 where
  pub table : List ℕ
  pub whole : input_within LONGEST_TABLES stated ≡ Ended table
  pub no_stray : HasNoStray limits file table
  pub states : StatesEach (TellsPart asked limits file table) limits (arrangement_of asked.text)
      file told.text.items
  pub noted : HasNotes asked.form limits file table told.notes.items

-- The table was read to its end, and this is the first of its lines, but one of titles, that is of
-- no one station, which is told with the stations of the file.
pub record IsStray (limits : ResultLimits) (file : FileAnswers) (stated : Told) (number : ℕ)
    (hint : List ℕ) : Type 0 where
  pub table : List ℕ
  pub whole : input_within LONGEST_TABLES stated ≡ Ended table
  pub stations : List SurveyedStation
  pub unchecked : ℕ
  pub survey : IsNotedSurvey limits.faces file stations unchecked
  pub stray : first_stray stations (lines_of table) ≡ Some number
  pub hint_is : hint ≡ stations_hint stations unchecked

-- Why no text is answered, of no one station: a fault of the file, or that it has no station,
-- whichever is asked for; a read of the table failed; it is too long; a line is of no one station.
abbrev pub IsRefusedWhole : ResultLimits → FileAnswers → Told → CompareFault → List ℕ → Type 0
IsRefusedWhole limits file stated (File fault) hint =
    (name : List ℕ) → IsRefusedAlone limits file name (record { fault = File fault; hint = hint })
IsRefusedWhole limits file stated TableRead hint =
    (bytes : List ℕ) × (input_within LONGEST_TABLES stated ≡ BrokeOff bytes) × (hint ≡ [])
IsRefusedWhole limits file stated (Table TooLong) hint =
    (input_within LONGEST_TABLES stated ≡ RanPast) × (hint ≡ [])
IsRefusedWhole limits file stated (Table (Row number Unknown)) hint =
    IsStray limits file stated number hint
IsRefusedWhole limits file stated Memory hint = hint ≡ []
IsRefusedWhole limits file stated fault hint = ⊥

-- The table was read to its end, each line is of one station, and the one of this name is the first
-- that is refused.
pub record IsRefusedFirst (asked : PartAsked) (limits : ResultLimits) (file : FileAnswers)
    (stated : Told) (name : List ℕ) (refusal : Refusal) : Type 0 where
  pub table : List ℕ
  pub whole : input_within LONGEST_TABLES stated ≡ Ended table
  pub no_stray : HasNoStray limits file table
  pub first : IsFirstOfEach (TellsPart asked limits file table)
      (IsRefusedPart asked limits file table) limits file name refusal

-- Why no text is answered: of no one station, or of the first that is refused, which is named.
abbrev pub IsWhyNoTextOf : PartAsked → ResultLimits → FileAnswers → Told → Option (List ℕ)
    → Refusal → Type 0
IsWhyNoTextOf asked limits file stated None refusal =
    IsRefusedWhole limits file stated refusal.fault refusal.hint
IsWhyNoTextOf asked limits file stated (Some name) refusal =
    IsRefusedFirst asked limits file stated name refusal

-- Why there is no text of a file, by the refusal and the station that it names.
abbrev pub IsWhyNoTexts : PartAsked → ResultLimits → FileAnswers → Told → StationRefusal → Type 0
IsWhyNoTexts asked limits file stated refused =
    IsWhyNoTextOf asked limits file stated refused.station refused.refusal

-- What is answered: the one text and its notes, or why there is none.
abbrev pub TellsTexts : PartAsked → ResultLimits → FileAnswers → Told
    → Result NotedText StationRefusal → Type 0
TellsTexts asked limits file stated (Ok told) = StatesTexts asked limits file stated told
TellsTexts asked limits file stated (Err refused) = IsWhyNoTexts asked limits file stated refused

-- the notes of an answer
abbrev pub notes_of : NotedText → List ℕ
notes_of told = told.notes.items

-- A run: all that it promises of its answer, how the text was written, and that this answer, with
-- its notes, is given where it was.
pub record IsRunOfTable (asked : PartAsked) (limits : ResultLimits) (gsi table : ReaderChange)
    (r : Result NotedText StationRefusal) (out : WriterChange) : Type 0 where
  pub answer : Result NotedText StationRefusal
  pub tells : ReadsBoth gsi table (fault_of answer)
      (λ file stated. TellsTexts asked limits file stated answer)
  pub printed : PrintsAnswer (λ told. told.text.items) (of_no_one Write) answer r out
  pub given : IfOk r (λ told. answer ≡ Ok told)
