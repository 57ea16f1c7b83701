-- The five columns of a row.
use Rattle.std.specs.Prelude.{ℕ, List, [], ◌∷◌, Option, Some, None}
use Rattle.sheet_format.specs.declared.columns.Columns.{Columns}

-- the fields of a row that has five
pub record Fields : Type 0 where
  pub row_type : List ℕ
  pub number : List ℕ
  pub name : List ℕ
  pub value : List ℕ
  pub turn : List ℕ

-- the columns of a record, where it has five fields
abbrev pub columns_of : List (List ℕ) → Option Fields
columns_of (a ∷ b ∷ c ∷ d ∷ e ∷ []) =
    Some (record { row_type = a; number = b; name = c; value = d; turn = e })
columns_of _ = None

-- the same, of the columns in memory
abbrev pub columns_view : Columns → Fields
columns_view c = record {
  row_type = c.row_type.now;
  number = c.number.now;
  name = c.name.now;
  value = c.value.now;
  turn = c.turn.now;
}
