-- Where the rows of a sheet or a table stand, as `csv` reads them.
use Rattle.std.specs.Prelude.{◌≡◌, ℕ, ◌+◌, ◌-◌, ◌==◌, List, [], ◌∷◌, Option, Some, None, length}
use Rattle.std.specs.Prelude.{if◌then◌else◌, slice_get}
use Rattle.csv.specs.Machine.{ends_at_end, is_end, step}
use Rattle.csv.specs.Reading.{strip_bom}
use Rattle.csv.specs.declared.parser.Config.{Config}
use Rattle.csv.specs.declared.parser.State.{State}
use Rattle.csv.specs.declared.parser.State.TheVariants as st
use Rattle.refusal_places.specs.declared.span.Span.{Span}
use Rattle.row_forms.specs.ByteSteps.{config_with}

-- Where the row begins that is read in this state: the bytes that end lines before it are not its
-- own.
abbrev pub begin_in : State → ℕ → ℕ → ℕ
begin_in s first next = if ends_at_end s then first else next

-- Where the rows stand from a byte on, which the machine reads in this state and as part of a row that
-- began at `first`.
unfoldable pub spans_from : Config → State → ℕ → ℕ → List ℕ → List Span
spans_from cfg s first at [] =
    if ends_at_end s then record { first = first; end = at } ∷ [] else []
spans_from cfg s first at (b ∷ text) =
    if is_end (step cfg s b).1
    then record { first = first; end = at } ∷ spans_from cfg st.StartRecord (at + 1) (at + 1) text
    else spans_from cfg (step cfg s b).0 (begin_in (step cfg s b).0 first (at + 1)) (at + 1) text

-- How many bytes of a text are a byte order mark at its start, which is no part of its rows.
abbrev pub mark_size : List ℕ → ℕ
mark_size text = length text - length (strip_bom text)

-- Where the rows of a text stand whose fields this byte separates, in their order. Lines without a
-- byte are none.
abbrev pub row_spans : ℕ → List ℕ → List Span
row_spans separator text =
    spans_from (config_with separator) st.StartRecord (mark_size text) (mark_size text)
    (strip_bom text)

-- Where the row of this number stands, the first of which has number 1.
abbrev pub row_at : ℕ → List ℕ → ℕ → Option Span
row_at separator text number =
    if number == 0 then None else slice_get (row_spans separator text) (number - 1)

-- The row of this number of a table stands here, whether commas, semicolons, tabs or blanks separate
-- its fields.
pub record IsRowHowever (table : List ℕ) (number : ℕ) (span : Span) : Type 0 where
  pub by_commas : row_at 44 table number ≡ Some span
  pub by_semicolons : row_at 59 table number ≡ Some span
  pub by_tabs : row_at 9 table number ≡ Some span
  pub by_blanks : row_at 32 table number ≡ Some span
