-- The directions of the targets as far as the rows of a table were read.
use Rattle.std.specs.Prelude.{◌≡◌, ℕ, List, map, ℤ, Option}
use Rattle.direction_table.specs.Rows.{direction_in}
use Rattle.direction_table.specs.declared.unit.AngleUnit.{AngleUnit}

-- Whichever rows these directions are those of, this is so of the rows.
abbrev pub OfRowsBefore : AngleUnit → List (List ℕ) → List (Option ℤ)
    → (List (List (List ℕ)) → Type 0) → Type 0
OfRowsBefore unit targets directions So =
    (before : List (List (List ℕ))) → directions ≡ map (direction_in unit before) targets
    → So before
