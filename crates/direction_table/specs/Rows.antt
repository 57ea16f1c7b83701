-- The rows of a table of directions.
use Rattle.std.specs.Prelude.{ℕ, if◌then◌else◌, List, [], ◌∷◌, ℤ, Option, Some, None}
use Rattle.std.specs.Str.{bytes_eq}
use Rattle.direction_table.specs.Directions.{direction_value}
use Rattle.direction_table.specs.declared.columns.Columns.{Columns}
use Rattle.direction_table.specs.declared.unit.AngleUnit.{AngleUnit}

-- The fields of a row that has two columns.
pub record TwoColumns : Type 0 where
  pub name : List ℕ
  pub direction : List ℕ

-- The columns of a record, where it has two fields.
abbrev pub two_columns_of : List (List ℕ) → Option TwoColumns
two_columns_of (a ∷ b ∷ []) = Some (record { name = a; direction = b })
two_columns_of _ = None

-- The same, of the columns in memory.
abbrev pub two_columns_view : Columns → TwoColumns
two_columns_view c = record { name = c.name.now; direction = c.direction.now }

-- The name of a row.
abbrev pub name_of : List (List ℕ) → List ℕ
name_of [] = []
name_of (name ∷ others) = name

-- What stands beside the name: the field of the direction.
abbrev pub beside_name : List (List ℕ) → List ℕ
beside_name [] = []
beside_name (name ∷ []) = []
beside_name (name ∷ field ∷ others) = field

-- The direction that the first of these rows with a name states, in parts; none where no row has
-- this name.
abbrev pub direction_in : AngleUnit → List (List (List ℕ)) → List ℕ → Option ℤ
direction_in unit [] name = None
direction_in unit (row ∷ rows) name =
    if bytes_eq (name_of row) name then Some (direction_value unit (beside_name row))
    else direction_in unit rows name
