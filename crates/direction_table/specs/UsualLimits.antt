-- The limit of a comparison that is usual for a table, in units of 0.000001 gon. The row that is
-- written most finely tells it: a zero that is left out takes decimals away, and never adds any.
use Rattle.std.specs.Prelude.{ℕ, ◌+◌, ◌*◌, ◌-◌, ◌/◌, ◌==◌, if◌then◌else◌, List, [], ◌∷◌, min, max}
use Rattle.direction_table.specs.Directions.{is_direction, step_in}
use Rattle.direction_table.specs.Rows.{beside_name}
use Rattle.direction_table.specs.declared.direction.TheConstants.{DEGREE_PARTS}
use Rattle.direction_table.specs.declared.limit.TheConstants.{UNIT_PARTS, USUAL_WITHIN}
use Rattle.direction_table.specs.declared.unit.AngleUnit.{AngleUnit}

-- The step that a row tells, in parts; 0 where it tells none, or states no direction.
abbrev pub row_step : AngleUnit → List (List ℕ) → ℕ
row_step unit row =
    if is_direction unit (beside_name row) then step_in unit (beside_name row) else 0

-- The finer of two steps, where 0 is none.
abbrev pub finer : ℕ → ℕ → ℕ
finer step other =
    if step == 0 then other else (if other == 0 then step else min step other)

-- The finest step that one of these rows tells; 0 where none tells one.
abbrev pub finest_step : AngleUnit → List (List (List ℕ)) → ℕ
finest_step unit [] = 0
finest_step unit (row ∷ rows) = finer (row_step unit row) (finest_step unit rows)

-- Half a step in parts, rounded up to units, and 5 units more. So far may rounding to such steps
-- bring the directions of an instrument away: it averages readings before it rounds them, and the
-- field file has each of them rounded by 5 units at most.
abbrev pub limit_of_step : ℕ → ℕ
limit_of_step step = (step + (2 * UNIT_PARTS - 1)) / (2 * UNIT_PARTS) + 5

-- The limit where none is stated: that of the finest step, and 10 at least (profile).
abbrev pub usual_within : AngleUnit → List (List (List ℕ)) → ℕ
usual_within unit rows = max USUAL_WITHIN (limit_of_step (finest_step unit rows))

-- By how many parts the numbers that rows write may be off from the directions that are read of
-- them: by none; but where something is left out of one, and its step is one part, by a unit of the
-- ninth decimal, of which that of a degree is the largest.
abbrev pub most_off : AngleUnit → List (List (List ℕ)) → ℕ
most_off unit rows = if finest_step unit rows == 1 then DEGREE_PARTS else 0
