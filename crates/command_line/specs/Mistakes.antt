-- What is mistaken in words that the grammar takes, by what is found of them, and what is told.
use Rattle.std.specs.Prelude.{◌≡◌, ◌≢◌, ◌++◌, ◌<◌, ◌≤◌, ◌⊎◌, ℕ, IsSome, List, None, Some, true}
use Rattle.std.specs.Prelude.{⊤, codes}
use Rattle.clap.specs.Words.{matched_of}
use Rattle.clap.specs.declared.parser.matches.Found.{Found}
use Rattle.command_line.specs.CountOptions.{count_is_not_in, count_largest, count_may_be}
use Rattle.command_line.specs.CountOptions.{count_name, count_place}
use Rattle.command_line.specs.LimitOptions.{option_largest, option_limits, option_name, option_unit}
use Rattle.command_line.specs.LimitOptions.{place}
use Rattle.command_line.specs.Stated.{IsCommaAlone, IsCommaInJson, IsGiven, NoLimitIsStated}
use Rattle.command_line.specs.Stated.{StatesDigests, StatesFlag}
use Rattle.command_line.specs.Stated.{StatesNoCode, StatesNoColumns, StatesUnit}
use Rattle.changed_lines.specs.Stated.{IsFirstUnsaid}
use Rattle.changed_lines.specs.declared.stated.EditKind.{EditKind}
use Rattle.command_line.specs.StatedChanges.{change_form, change_name, change_place, change_why}
use Rattle.command_line.specs.StatedNotes.{SpeaksOfNotes, language_named, language_stated}
use Rattle.command_line.specs.StatedNumbers.{texts_of}
use Rattle.report_notes.specs.Stated.{IsFirstUnnoted}
use Rattle.report_phrases.specs.declared.language.Language.{Language}
use Rattle.job_statements.specs.WrongTexts.{IsFirstWrong}
use Rattle.command_line.specs.declared.count_option.CountOption.{CountOption}
use Rattle.command_line.specs.declared.limit_option.LimitOption.{LimitOption}
use Rattle.command_line.specs.declared.mistakes.Mistake.{Mistake}
use Rattle.command_line.specs.declared.mistakes.Mistake.TheVariants as mistake
use Rattle.job_statements.specs.declared.numbers.CountFault.{CountFault}
use Rattle.job_statements.specs.declared.numbers.CountFault.TheVariants as fault
use Rattle.command_line.specs.declared.request.Digests.TheVariants.{Printed}
use Rattle.direction_table.specs.declared.unit.AngleUnit.TheVariants.{Gon}

-- This is the text of the option, and no limit up to the option's largest is stated there.
abbrev pub IsNoLimit : Found → LimitOption → List ℕ → Type 0
IsNoLimit found option text = IsGiven found (option_name option) text
    × NoLimitIsStated found (option_name option) (option_unit option) (option_largest option)

-- No text of the option is wrong: it has none, or one that states a limit up to its largest.
abbrev pub IsRightLimit : Found → LimitOption → Type 0
IsRightLimit found option = (text : List ℕ) → ¬ (IsNoLimit found option text)

-- So it is with each option that states a limit.
abbrev pub AreRightLimits : Found → Type 0
AreRightLimits found = (option : LimitOption) → IsRightLimit found option

-- Something is found of this option.
abbrev pub HasOption : Found → List ℕ → Type 0
HasOption found name = IsSome (matched_of found name)

-- It is stated how a table is read: in another unit than gon, or by columns.
unfoldable pub HasForm : Found → Type 0
HasForm found = ¬ (StatesUnit found Gon) ⊎ HasOption found (codes "columns")

-- What is of a table beside a report is stated: the table, a limit of a comparison, or how a table
-- is read.
abbrev pub IsOfTable : Found → Type 0
IsOfTable found = HasOption found (codes "table") ⊎ HasOption found (codes "within") ⊎ HasForm found

-- What may not stand beside rows is stated: that, or what a report alone can have.
abbrev pub StandsBesideRows : Found → Type 0
StandsBesideRows found = IsOfTable found ⊎ SpeaksOfNotes found

-- What is of one station is stated: its name, what is of a table beside its report, or that digests
-- be printed.
abbrev pub StandsBesideAll : Found → Type 0
StandsBesideAll found = HasOption found (codes "STATION") ⊎ IsOfTable found
    ⊎ StatesDigests found Printed

-- What may not stand beside one table of all stations is stated: another one, JSON lines, or that
-- digests be printed.
abbrev pub StandsBesideTable : Found → Type 0
StandsBesideTable found = HasOption found (codes "TABLE") ⊎ StatesFlag found (codes "json") true
    ⊎ StatesDigests found Printed

-- This is stated as the columns of a table, and no columns are stated so.
abbrev pub IsWrongColumns : Found → List ℕ → Type 0
IsWrongColumns found text = IsGiven found (codes "columns") text × StatesNoColumns found

-- This text of the option is the first that can't stand where it does, for this reason.
abbrev pub IsWrongCount : Found → CountOption → List ℕ → CountFault → Type 0
IsWrongCount found option text fault =
    IsFirstWrong (count_largest option) (texts_of found (count_name option)) text fault

-- No text of the option is so.
abbrev pub HasRightCounts : Found → CountOption → Type 0
HasRightCounts found option =
    (text : List ℕ) (fault : CountFault) → ¬ (IsWrongCount found option text fault)

-- This is stated as the code of the stations, and no such code is stated.
abbrev pub IsWrongCode : Found → List ℕ → Type 0
IsWrongCode found text = IsGiven found (codes "station-code") text × StatesNoCode found

-- This text of the option is the first that says no change of its kind.
abbrev pub IsWrongChange : Found → EditKind → List ℕ → Type 0
IsWrongChange found kind text = IsFirstUnsaid kind (texts_of found (change_name kind)) text

-- This is stated as the language of a report, and is no code of one.
pub record IsWrongLanguage (found : Found) (text : List ℕ) : Type 0 where
  pub given : IsGiven found (codes "language") text
  pub unnamed : language_named text ≡ None

-- This text of the option is the first that states no note in the stated language.
pub record IsWrongNote (found : Found) (text : List ℕ) : Type 0 where
  pub language : Language
  pub stated : language_stated found ≡ Some language
  pub first : IsFirstUnnoted language (texts_of found (codes "note")) text

-- This mistake is there: the text of an option is no limit; a text states no columns; JSON lines
-- are asked for, and decimal commas; rows are asked for, and something beside them; the limit of a
-- comparison, or how a table is read, is stated without a table; a decimal comma is stated, and no
-- rows; a text of an option that states numbers can't stand where it does; the code of the stations
-- is none that may be; a text of an option that states changes of lines says none; the text of the
-- language is no code of one; a text of `--note` states no note; all stations are asked for, and
-- something that is of one; a name is stated for a station; one table of all stations is asked for,
-- and something that is of one. That an argument is missing is told where no other mistake is
-- there: the grammar has refused it before.
abbrev pub IsThere : Found → Mistake → Type 0
IsThere found (mistake.Limit option text) = IsNoLimit found option text.now
IsThere found (mistake.Columns text) = IsWrongColumns found text.now
IsThere found mistake.Rows = StatesFlag found (codes "csv") true × StandsBesideRows found
IsThere found mistake.Within =
    ¬ (HasOption found (codes "table")) × HasOption found (codes "within")
IsThere found mistake.Form = ¬ (HasOption found (codes "table")) × HasForm found
IsThere found mistake.Json = IsCommaInJson found
IsThere found mistake.DecimalComma = IsCommaAlone found
IsThere found (mistake.Count option text fault) = IsWrongCount found option text.now fault
IsThere found (mistake.Code text) = IsWrongCode found text.now
IsThere found (mistake.Change kind text) = IsWrongChange found kind text.now
IsThere found (mistake.Language text) = IsWrongLanguage found text.now
IsThere found (mistake.Note text) = IsWrongNote found text.now
IsThere found mistake.All = StatesFlag found (codes "all") true × StandsBesideAll found
IsThere found mistake.Name = HasOption found (codes "station")
IsThere found mistake.Missing = ⊤
IsThere found mistake.TableOfAll = StatesFlag found (codes "all") true × StandsBesideTable found

-- The place of a mistake in the order in which mistakes are told: wrong limits by the places of
-- their options, then columns, then JSON lines or rows, of which no command has both, then what is
-- stated without a table, a decimal comma, numbers, a code, changes of lines, the language, notes,
-- all stations beside one, a name, and that an argument is missing last. What other commands than
-- `report` are told stands before what is stated without a table: it alone has that option. The
-- very last is of `compare` and `differences`, which lack it.
abbrev pub rank : Mistake → ℕ
rank (mistake.Limit option text) = place option
rank (mistake.Columns text) = 4
rank mistake.Json = 5
rank mistake.Rows = 5
rank mistake.Within = 6
rank mistake.Form = 7
rank mistake.DecimalComma = 8
rank (mistake.Count option text fault) = count_place option
rank (mistake.Code text) = 11
rank (mistake.Change kind text) = change_place kind
rank (mistake.Language text) = 14
rank (mistake.Note text) = 15
rank mistake.All = 16
rank mistake.Name = 17
rank mistake.Missing = 18
rank mistake.TableOfAll = 19

-- No mistake that is told before this place is there.
abbrev pub NoneIsBefore : ℕ → Found → Type 0
NoneIsBefore place found = (other : Mistake) → rank other < place → ¬ (IsThere found other)

-- The mistake that is told of what is found: it is there, and none that is told before it is.
pub record IsMistakeAmong (found : Found) (mistake : Mistake) : Type 0 where
  pub there : IsThere found mistake
  pub first : NoneIsBefore (rank mistake) found

-- The mistake that is told of what is found after `compare` or `differences`: one that is told
-- before what is stated without the option of a table; or, where none of these is there, what may
-- not stand beside one table of all stations, or else that an argument is missing.
abbrev pub IsMistakeBesideTable : Found → Mistake → Type 0
IsMistakeBesideTable found mistake.TableOfAll =
    NoneIsBefore 6 found × IsThere found mistake.TableOfAll
IsMistakeBesideTable found mistake.Missing =
    NoneIsBefore 6 found × ¬ (IsThere found mistake.TableOfAll)
IsMistakeBesideTable found other = (rank other < 6) × IsMistakeAmong found other

-- The mistake that is told of what is found after the name of a subcommand.
abbrev pub IsMistakeAfter : List ℕ → Found → Mistake → Type 0
IsMistakeAfter name found told =
    (((name ≡ codes "compare") ⊎ (name ≡ codes "differences")) × IsMistakeBesideTable found told)
    ⊎ ((name ≢ codes "compare") × (name ≢ codes "differences") × IsMistakeAmong found told)

-- No mistake from a place on and before another one is there.
abbrev pub NoneIsBetween : ℕ → ℕ → Found → Type 0
NoneIsBetween from to found =
    (other : Mistake) → from ≤ rank other → rank other < to → ¬ (IsThere found other)

-- The same of the mistakes from a place on.
pub record IsMistakeFrom (place : ℕ) (found : Found) (mistake : Mistake) : Type 0 where
  pub there : IsThere found mistake
  pub late : place ≤ rank mistake
  pub first : (other : Mistake) → place ≤ rank other → rank other < rank mistake
      → ¬ (IsThere found other)

-- What is told of the fault of a text.
abbrev pub count_why : CountOption → CountFault → List ℕ
count_why option fault.Name =
    codes "the name of a station has 1 to 16 characters of ASCII, from the blank to '~'"
count_why option fault.Digits = count_may_be option
count_why option (fault.Range number) = number.now ++ count_is_not_in option
count_why option fault.EachTwice = codes "another number is stated for all stations before it"
count_why option fault.OneTwice = codes "another number is stated for this station before it"

-- What is told of a code of the stations that may not be one.
abbrev pub code_why : List ℕ
code_why = codes "a code has 1 to 16 characters of ASCII, and is none of 10, 20 and 30, "
    ++ codes "which 'mark' puts in"

-- What is told of a text that states no columns of a table.
abbrev pub columns_why : List ℕ
columns_why = codes "two columns by their numbers from 1 or by their titles, with a comma between, "
    ++ codes "as 2,6 or Target,Hz"

-- What is told of a text that is no code of a language.
abbrev pub language_why : List ℕ
language_why = codes "state en for English, de for German or fr for French"

-- What is told of a text that states no note.
abbrev pub note_why : List ℕ
note_why =
    codes "state KEY=TEXT, where KEY is not empty, has blanks one at a time and none at an end, "
    ++ codes "and is no label that the head has of its own, as 'Station'"

-- The text of a mistake.
abbrev pub mistake_text : Mistake → List ℕ
mistake_text (mistake.Limit option text) =
    codes "invalid value '" ++ text.now ++ codes "' for '--" ++ option_name option
    ++ codes " <LIMIT>': " ++ option_limits option
mistake_text mistake.Rows =
    codes "'--csv' prints rows alone: not with '--table', how it is read, '--within', "
    ++ codes "'--language', '--pages', or what a report notes"
mistake_text mistake.Within =
    codes "'--within <LIMIT>' limits how far a table may be off: name it with '--table <TABLE>'"
mistake_text mistake.Form =
    codes "'--degrees', '--dmmss' and '--columns' say how a table is read: "
    ++ codes "name it with '--table <TABLE>'"
mistake_text (mistake.Columns text) =
    codes "invalid value '" ++ text.now ++ codes "' for '--columns <TARGET,DIRECTION>': "
    ++ columns_why
mistake_text mistake.Json = codes "'--json' writes numbers with points: not with '--decimal-comma'"
mistake_text mistake.DecimalComma =
    codes "'--decimal-comma' says how rows are written: print rows with '--csv'"
mistake_text (mistake.Count option text fault) =
    codes "invalid value '" ++ text.now ++ codes "' for '--" ++ count_name option
    ++ codes " <N>': " ++ count_why option fault
mistake_text (mistake.Code text) =
    codes "invalid value '" ++ text.now ++ codes "' for '--station-code <N>': " ++ code_why
mistake_text (mistake.Change kind text) =
    codes "invalid value '" ++ text.now ++ codes "' for '--" ++ change_form kind ++ codes "': "
    ++ change_why kind
mistake_text (mistake.Language text) =
    codes "invalid value '" ++ text.now ++ codes "' for '--language <CODE>': " ++ language_why
mistake_text (mistake.Note text) =
    codes "invalid value '" ++ text.now ++ codes "' for '--note <KEY=TEXT>': " ++ note_why
mistake_text mistake.All =
    codes "'--all' is of all stations: not with a STATION, '--table', how it is read, '--within' or "
    ++ codes "'--sha256'"
mistake_text mistake.Name =
    codes "the name of a station has 1 to 16 characters of ASCII, from the blank to '~'"
mistake_text mistake.Missing = codes "an argument is missing"
mistake_text mistake.TableOfAll =
    codes "'--all' takes one table of all stations in the place of STATION: not with another TABLE, "
    ++ codes "'--json' or '--sha256'"
