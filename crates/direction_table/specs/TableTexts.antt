-- The text of a table of directions, as it is written in a form.
use Rattle.std.specs.Prelude.{ℕ, ◌*◌, List, [], ◌∷◌, map, ℤ, pos}
use Rattle.direction_table.specs.Texts.{direction_text}
use Rattle.adjust_kernel.specs.declared.units.TheConstants.{PARTS}
use Rattle.direction_table.specs.declared.table.TargetDirection.{TargetDirection}
use Rattle.row_forms.specs.Forms.{number_in, rows_text}
use Rattle.row_forms.specs.declared.form.RowForm.{RowForm}

-- The row of a target: its name, and its direction with so many decimals.
abbrev pub row_of : RowForm → ℕ → TargetDirection → List (List ℕ)
row_of form count stated =
    stated.name ∷ number_in form (direction_text count stated.direction) ∷ []

-- The text of a table: the rows of the targets, in their order.
abbrev pub table_text : RowForm → ℕ → List TargetDirection → List ℕ
table_text form count stated = rows_text form (map (row_of form count) stated)

-- The names of the targets, in their order.
abbrev pub names_of : List TargetDirection → List (List ℕ)
names_of stated = map (λ row. row.name) stated

-- Their directions, as they are read: in parts.
abbrev pub directions_of : List TargetDirection → List ℤ
directions_of stated = map (λ row. pos (PARTS * row.direction)) stated
