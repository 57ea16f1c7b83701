-- The rows of a sheet that begin with the same field.
use Rattle.std.specs.Prelude.{ℕ, ◌+◌, ◌-◌, ◌==◌, Bool, List, [], ◌∷◌, Option, None}
use Rattle.std.specs.Prelude.{filter, if◌then◌else◌, slice_get}
use Rattle.std.specs.Str.{bytes_eq}
use Rattle.csv.specs.Machine.{step}
use Rattle.csv.specs.declared.parser.Action.{Action}
use Rattle.csv.specs.declared.parser.Action.TheVariants as act
use Rattle.csv.specs.declared.parser.Config.{Config}
use Rattle.csv.specs.declared.parser.State.{State}
use Rattle.csv.specs.declared.parser.State.TheVariants as st
use Rattle.refusal_places.specs.Lines.{bytes_of}
use Rattle.refusal_places.specs.Rows.{row_spans}
use Rattle.refusal_places.specs.declared.kind.KindRow.{KindRow}
use Rattle.refusal_places.specs.declared.row.TheConstants.{COMMA}
use Rattle.refusal_places.specs.declared.span.Span.{Span}
use Rattle.row_forms.specs.ByteSteps.{config_with}

-- The field that begins with what a byte does, where this comes after it.
abbrev pub after_byte : Action → ℕ → List ℕ → List ℕ
after_byte act.Copy b field = b ∷ field
after_byte act.Skip b field = field
after_byte act.EndField b field = []
after_byte act.EndRecord b field = []

-- The field that the machine reads first of a row, from a state on.
unfoldable pub first_field : Config → State → List ℕ → List ℕ
first_field cfg s [] = []
first_field cfg s (b ∷ row) =
    after_byte (step cfg s b).1 b (first_field cfg (step cfg s b).0 row)

-- Whether this is the first field of a row whose fields commas separate.
abbrev pub is_first_field : List ℕ → List ℕ → Bool
is_first_field field row =
    bytes_eq (first_field (config_with COMMA) st.StartRecord row) field

-- Rows with their numbers, the first of which has this one.
abbrev pub numbered_from : ℕ → List Span → List KindRow
numbered_from number [] = []
numbered_from number (span ∷ spans) =
    record { row = number; span = span } ∷ numbered_from (number + 1) spans

-- Of rows those that begin with this field.
abbrev pub of_kind : List ℕ → List ℕ → List KindRow → List KindRow
of_kind kind sheet rows = filter (λ r. is_first_field kind (bytes_of sheet r.span)) rows

-- Of the rows of a sheet that begin with this field the one of this number.
abbrev pub row_of_kind_at : List ℕ → List ℕ → ℕ → Option KindRow
row_of_kind_at kind sheet number =
    if number == 0 then None
    else slice_get (of_kind kind sheet (numbered_from 1 (row_spans COMMA sheet))) (number - 1)
