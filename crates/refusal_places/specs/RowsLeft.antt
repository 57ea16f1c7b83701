-- The rows of a text that are left to be found.
use Rattle.std.specs.Prelude.{◌≡◌, List, [], ◌∷◌, Option, Some, None, drop}
use Rattle.csv.specs.declared.parser.State.TheVariants as st
use Rattle.refusal_places.specs.Rows.{spans_from}
use Rattle.refusal_places.specs.declared.rows.Rows.{Rows}
use Rattle.refusal_places.specs.declared.span.Span.{Span}
use Rattle.row_forms.specs.ByteSteps.{config_with}

-- Where the rows stand that are left.
abbrev pub spans_left : Rows → List Span
spans_left r =
    spans_from (config_with r.separator) st.StartRecord r.at r.at (drop r.at r.bytes.now)

-- The row that is found is the first of those that were left; where none is, none was left.
abbrev pub GivesRow : List Span → Option Span → List Span → Type 0
GivesRow before (Some span) after = before ≡ span ∷ after
GivesRow before None after = before ≡ []
