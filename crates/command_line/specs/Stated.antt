-- What is read of the words after a subcommand's name: the texts, limits and numbers that a parse
-- found.
use Rattle.std.specs.Prelude.{◌≡◌, ◌≢◌, ◌≤◌, ◌⊎◌, ℕ, Bool, true, false, IsSome, List, Option, Some}
use Rattle.std.specs.Prelude.{None, codes}
use Rattle.std.specs.Str.Parse.{IsNumeral, digits_value, without_leading_plus}
use Rattle.clap.specs.Words.{one_text, matched_of, first_value}
use Rattle.clap.specs.declared.parser.matches.Found.{Found}
use Rattle.adjust_kernel.specs.Names.{IsName}
use Rattle.job_statements.specs.StationCodes.{IsNoStationCode, IsStationCode}
use Rattle.job_statements.specs.declared.beginnings.Beginnings.{Beginnings}
use Rattle.adjust_kernel.specs.declared.bounds.TheConstants.{LARGEST_RESIDUAL_LIMIT}
use Rattle.limit_texts.specs.Limits.{StatesLimit}
use Rattle.limit_texts.specs.declared.limit.LimitUnit.{LimitUnit}
use Rattle.limit_texts.specs.declared.limit.LimitUnit.TheVariants.{Hundredth, HalfUnit, Thousandth}
use Rattle.station_book.specs.Limits.{AreLimits, FaceLimits}
use Rattle.direction_table.specs.declared.unit.AngleUnit.{AngleUnit}
use Rattle.direction_table.specs.declared.unit.AngleUnit.TheVariants.{Gon, Degrees, PackedDegrees}
use Rattle.command_line.specs.StatedColumns.{StateColumns, StateNoColumns}
use Rattle.command_line.specs.declared.request.ColumnsStated.{ColumnsStated}
use Rattle.command_line.specs.declared.request.Digests.{Digests}
use Rattle.command_line.specs.declared.request.Digests.TheVariants.{Printed, Omitted}
use Rattle.command_line.specs.declared.request.FormStated.{FormStated}
use Rattle.command_line.specs.declared.request.ListForm.{ListForm}
use Rattle.command_line.specs.declared.request.ListForm.TheVariants.{Lines, Rows}
use Rattle.row_forms.specs.declared.form.RowForm.{RowForm}
use Rattle.row_forms.specs.declared.form.RowForm.TheVariants.{Commas, Semicolons}

-- The first value of this id writes this number: in decimal digits, of which it has one at least,
-- after a plus or none.
abbrev pub StatesNumber : Found → List ℕ → ℕ → Type 0
StatesNumber found id n =
    (text : List ℕ) × (one_text found id ≡ Some text)
    × IsNumeral 10 (without_leading_plus text)
    × (n ≡ digits_value 10 (without_leading_plus text))

-- The first value of this id, if there is one, writes no number from a smallest up to a largest.
abbrev pub StatesNoNumber : Found → List ℕ → ℕ → ℕ → Type 0
StatesNoNumber found id smallest largest =
    (n : ℕ) → StatesNumber found id n → ¬ ((smallest ≤ n) × (n ≤ largest))

-- The first value of this id is this text.
abbrev pub IsGiven : Found → List ℕ → List ℕ → Type 0
IsGiven found id text = first_value found id ≡ Some text

-- No value of this id was found.
abbrev pub IsMissing : Found → List ℕ → Type 0
IsMissing found id = first_value found id ≡ None

-- The first value of this id states this limit, counted in this unit.
pub record LimitIsStated (found : Found) (id : List ℕ) (unit : LimitUnit) (limit : ℕ)
    : Type 0 where
  pub text : List ℕ
  pub given : IsGiven found id text
  pub states : StatesLimit unit text limit

-- The first value of this id, if there is one, states no limit up to a largest.
abbrev pub NoLimitIsStated : Found → List ℕ → LimitUnit → ℕ → Type 0
NoLimitIsStated found id unit largest =
    (limit : ℕ) → LimitIsStated found id unit limit → ¬ (limit ≤ largest)

-- These limits are stated.
pub record StatesLimits (found : Found) (limits : FaceLimits) : Type 0 where
  pub two_c : LimitIsStated found (codes "two-c") Hundredth limits.two_c
  pub two_i : LimitIsStated found (codes "two-i") Hundredth limits.two_i

-- No limits are stated that may be.
abbrev pub StatesNoLimits : Found → Type 0
StatesNoLimits found = (limits : FaceLimits) → StatesLimits found limits → ¬ (AreLimits limits)

-- This residual limit is stated, or none.
abbrev pub StatesResidual : Found → Option ℕ → Type 0
StatesResidual found None = matched_of found (codes "residual") ≡ None
StatesResidual found (Some limit) = LimitIsStated found (codes "residual") HalfUnit limit

-- A residual limit is stated that may not be.
abbrev pub StatesNoResidual : Found → Type 0
StatesNoResidual found = IsSome (matched_of found (codes "residual"))
    × NoLimitIsStated found (codes "residual") HalfUnit LARGEST_RESIDUAL_LIMIT

-- The residuals of a result are held to this limit: it is stated, or none is and it is the largest.
abbrev pub HoldsResiduals : Found → ℕ → Type 0
HoldsResiduals found limit = StatesResidual found (Some limit)
    ⊎ (StatesResidual found None × (limit ≡ LARGEST_RESIDUAL_LIMIT))

-- This limit of a comparison is stated, in units of 0.000001 gon, and is none too large; or none is
-- stated.
abbrev pub StatesWithin : Found → Option ℕ → Type 0
StatesWithin found None = matched_of found (codes "within") ≡ None
StatesWithin found (Some within) =
    (within ≤ 1_000_000) × LimitIsStated found (codes "within") Thousandth within

-- A limit of a comparison is stated that may not be.
abbrev pub StatesNoWithin : Found → Type 0
StatesNoWithin found = IsSome (matched_of found (codes "within"))
    × NoLimitIsStated found (codes "within") Thousandth 1_000_000

-- Digests are printed where the flag stands, and only there: its value is then the text `true`.
abbrev pub StatesDigests : Found → Digests → Type 0
StatesDigests found Printed = one_text found (codes "sha256") ≡ Some (codes "true")
StatesDigests found Omitted = one_text found (codes "sha256") ≢ Some (codes "true")

-- The flag of this id stands, or doesn't: where it stands, its value is the text `true`.
abbrev pub StatesFlag : Found → List ℕ → Bool → Type 0
StatesFlag found id true = one_text found id ≡ Some (codes "true")
StatesFlag found id false = one_text found id ≢ Some (codes "true")

-- Rows have semicolons between cells and commas in numbers where the flag of a decimal comma
-- stands, and only there.
abbrev pub StatesRowForm : Found → RowForm → Type 0
StatesRowForm found Semicolons = StatesFlag found (codes "decimal-comma") true
StatesRowForm found Commas = StatesFlag found (codes "decimal-comma") false

-- A result is printed as rows where their flag stands, and else as lines, of which no decimal comma
-- is stated.
abbrev pub StatesForm : Found → ListForm → Type 0
StatesForm found (Rows form) = StatesFlag found (codes "csv") true × StatesRowForm found form
StatesForm found Lines =
    StatesFlag found (codes "csv") false × StatesFlag found (codes "decimal-comma") false

-- A decimal comma is stated, and no rows.
abbrev pub IsCommaAlone : Found → Type 0
IsCommaAlone found =
    StatesFlag found (codes "csv") false × StatesFlag found (codes "decimal-comma") true

-- JSON lines are asked for, and decimal commas, which JSON does not have.
abbrev pub IsCommaInJson : Found → Type 0
IsCommaInJson found =
    StatesFlag found (codes "json") true × StatesFlag found (codes "decimal-comma") true

-- A table states degrees with minutes and seconds after the point where the flag of these stands;
-- else degrees where that of degrees stands; and else gon.
abbrev pub StatesUnit : Found → AngleUnit → Type 0
StatesUnit found PackedDegrees = StatesFlag found (codes "dmmss") true
StatesUnit found Degrees =
    StatesFlag found (codes "dmmss") false × StatesFlag found (codes "degrees") true
StatesUnit found Gon =
    StatesFlag found (codes "dmmss") false × StatesFlag found (codes "degrees") false

-- These columns of a table are stated, or none.
abbrev pub StatesColumns : Found → Option ColumnsStated → Type 0
StatesColumns found None = IsMissing found (codes "columns")
StatesColumns found (Some columns) = (text : List ℕ) × IsGiven found (codes "columns") text
    × StateColumns text columns

-- A text of columns is stated, and states none.
abbrev pub StatesNoColumns : Found → Type 0
StatesNoColumns found = (text : List ℕ) × IsGiven found (codes "columns") text
    × StateNoColumns text

-- A table is to be read so.
abbrev pub StatesTableForm : Found → FormStated → Type 0
StatesTableForm found form = StatesUnit found form.unit × StatesColumns found form.columns

-- That isn't how a table is read of which nothing is stated: in gon, and by no stated columns.
abbrev pub IsStatedForm : FormStated → Type 0
IsStatedForm form = (form.unit ≢ Gon) ⊎ IsSome form.columns

-- This name of a station is stated, or none.
abbrev pub StatesName : Found → Option (List ℕ) → Type 0
StatesName found None = IsMissing found (codes "station")
StatesName found (Some name) = IsGiven found (codes "station") name × IsName name

-- A text is stated that no station can have for a name.
abbrev pub StatesNoName : Found → Type 0
StatesNoName found = (text : List ℕ) × IsGiven found (codes "station") text × ¬ (IsName text)

-- This code is stated as one whose blocks begin a station, or none is.
abbrev pub StatesCode : Found → Option (List ℕ) → Type 0
StatesCode found None = IsMissing found (codes "station-code")
StatesCode found (Some code) =
    (text : List ℕ) × IsGiven found (codes "station-code") text × IsStationCode text code

-- A text is stated that is no such code.
abbrev pub StatesNoCode : Found → Type 0
StatesNoCode found =
    (text : List ℕ) × IsGiven found (codes "station-code") text × IsNoStationCode text

-- Stations begin as it is stated: by the name of the file's one station or by set-up lines, of
-- which one of the station that is open may begin nothing, and by blocks of a code.
pub record StatesBeginnings (found : Found) (beginnings : Beginnings) : Type 0 where
  pub of_name : StatesName found beginnings.station
  pub of_same : StatesFlag found (codes "same-set-up") beginnings.same_set_up
  pub of_code : StatesCode found beginnings.code

-- A name or a code is stated that may not be.
abbrev pub StatesNoBeginnings : Found → Type 0
StatesNoBeginnings found = StatesNoName found ⊎ StatesNoCode found
