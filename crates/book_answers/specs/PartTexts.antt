-- What is answered of a station and of its part of a table, before it is said of the file.
use Rattle.std.specs.Prelude.{◌≡◌, ℕ, List, Option, Ok, Err}
use Rattle.book_answers.specs.Columns.{column_in_whole, form_in_part}
use Rattle.book_answers.specs.declared.part.PartAsked.{PartAsked}
use Rattle.book_answers.specs.declared.part.PartText.{PartText}
use Rattle.book_answers.specs.declared.part.PartText.TheVariants.{Comparison, Differences}
use Rattle.direction_table.specs.declared.fault.TableFault.TheVariants as table
use Rattle.direction_table.specs.declared.form.TableForm.{TableForm}
use Rattle.row_forms.specs.declared.form.RowForm.{RowForm}
use Rattle.station_book.specs.Stations.{SurveyedStation}
use Rattle.station_book.specs.declared.result_limits.ResultLimits.{ResultLimits}
use Rattle.station_compare.specs.AgreementTexts.{agreement_line}
use Rattle.station_compare.specs.Comparing.{ByTable}
use Rattle.station_compare.specs.HintTexts.{station_hint}
use Rattle.station_compare.specs.declared.agreement.Agreement.{Agreement}
use Rattle.station_compare.specs.declared.fault.CompareFault.{CompareFault}
use Rattle.station_compare.specs.declared.fault.CompareFault.TheVariants.{Table}
use Rattle.station_compare.specs.declared.refusal.Refusal.{Refusal}
use Rattle.station_differences.specs.Stating.{IsDifferencesText}
use Rattle.station_differences.specs.declared.line_form.LineForm.TheVariants.{Rows}
use Rattle.station_tables.specs.Parts.{line_of_row, part_of}
use Rattle.table_answers.specs.Refusing.{RefusesDifferences}

-- A fault of the part of the station of this name in these lines, as it is told: its row by the
-- line of the whole table, its columns by those of the whole.
abbrev pub in_whole : List (List ℕ) → List ℕ → CompareFault → CompareFault
in_whole lines name (Table (table.Row row kind)) =
    Table (table.Row (line_of_row name lines row) kind)
in_whole lines name (Table (table.Columns first second)) =
    Table (table.Columns (column_in_whole first) (column_in_whole second))
in_whole lines name fault = fault

-- The line of a table that agrees with a station, within this limit, if one is stated.
abbrev pub IsAgreementText : TableForm → Option ℕ → ResultLimits → SurveyedStation → List ℕ
    → List ℕ → Type 0
IsAgreementText form within limits its bytes own =
    (a : Agreement) × ByTable form its.station limits.residual within bytes (Ok a)
    × (own ≡ agreement_line a)

-- Why it doesn't agree, or isn't compared.
abbrev pub HasNoAgreement : TableForm → Option ℕ → ResultLimits → SurveyedStation → List ℕ
    → CompareFault → Type 0
HasNoAgreement form within limits its bytes fault =
    ByTable form its.station limits.residual within bytes (Err fault)

-- The differences of a table from a station, as rows in a form.
abbrev pub AreDifferences : TableForm → RowForm → SurveyedStation → List ℕ → List ℕ → Type 0
AreDifferences form rows its bytes own = IsDifferencesText form (Rows rows) its.station bytes own

-- What is answered of a station and of the bytes of a table.
abbrev pub SaysText : TableForm → PartText → ResultLimits → SurveyedStation → List ℕ → List ℕ
    → Type 0
SaysText form (Comparison within) limits its bytes own =
    IsAgreementText form within limits its bytes own
SaysText form (Differences rows) limits its bytes own = AreDifferences form rows its bytes own

-- Why nothing is.
abbrev pub LacksText : TableForm → PartText → ResultLimits → SurveyedStation → List ℕ
    → CompareFault → Type 0
LacksText form (Comparison within) limits its bytes fault =
    HasNoAgreement form within limits its bytes fault
LacksText form (Differences rows) limits its bytes fault =
    RefusesDifferences form limits its bytes fault

-- The same of a station and of its part of these lines.
abbrev pub SaysPart : PartAsked → ResultLimits → SurveyedStation → List (List ℕ) → List ℕ → Type 0
SaysPart asked limits its lines own =
    SaysText (form_in_part asked.form) asked.text limits its (part_of its.station.name lines) own

-- Why nothing is said of a station and of its part of these lines.
abbrev pub LacksPart : PartAsked → ResultLimits → SurveyedStation → List (List ℕ) → CompareFault
    → Type 0
LacksPart asked limits its lines fault =
    LacksText (form_in_part asked.form) asked.text limits its (part_of its.station.name lines)
    fault

-- A refusal of a station: why nothing is answered of its part, told by the lines and columns of the
-- whole table, and the hint of that.
pub record RefusesPart (asked : PartAsked) (limits : ResultLimits) (its : SurveyedStation)
    (lines : List (List ℕ)) (refusal : Refusal) : Type 0 where
  pub fault : CompareFault
  pub lacks : LacksPart asked limits its lines fault
  pub hint_is : refusal.hint ≡ station_hint its.station limits.residual fault
  pub told : refusal.fault ≡ in_whole lines its.station.name fault
