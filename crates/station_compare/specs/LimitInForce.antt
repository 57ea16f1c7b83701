-- The limit of a comparison, in units of 0.000001 gon, and what the numbers of its table are off.
use Rattle.std.specs.Prelude.{ℕ, List, Option, unwrap_or}
use Rattle.direction_table.specs.TableRows.{table_rows}
use Rattle.direction_table.specs.UsualLimits.{most_off, usual_within}
use Rattle.direction_table.specs.declared.form.TableForm.{TableForm}

-- The limit that is stated; where none is, the one that is usual for the steps to which the table's
-- rows round their directions (profile).
abbrev pub limit_in_force : TableForm → Option ℕ → List (List ℕ) → List ℕ → ℕ
limit_in_force form within targets bytes =
    unwrap_or within (usual_within form.unit (table_rows form targets bytes))

-- By how many parts the numbers that the table's rows write may be off from the directions that are
-- read of them.
abbrev pub off_in : TableForm → List (List ℕ) → List ℕ → ℕ
off_in form targets bytes = most_off form.unit (table_rows form targets bytes)
