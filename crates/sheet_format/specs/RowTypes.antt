-- The four types of rows, and the order in which they stand (profile): the sheet's row, its
-- targets, its sets and its observations.
use Rattle.std.specs.Prelude.{ℕ, Bool, true, false, if◌then◌else◌, List, Option, Some, None, codes}
use Rattle.std.specs.Str.{bytes_eq}
use Rattle.sheet_format.specs.declared.row_type.RowType.{RowType}
use Rattle.sheet_format.specs.declared.row_type.RowType.TheVariants.{Sheet, Target, Set, Obs}

-- the field that names a type of row
abbrev pub row_type_text : RowType → List ℕ
row_type_text Sheet = codes "sheet"
row_type_text Target = codes "target"
row_type_text Set = codes "set"
row_type_text Obs = codes "obs"

-- whether a field names this type
abbrev pub names_row_type : RowType → List ℕ → Bool
names_row_type row_type field = bytes_eq field (row_type_text row_type)

-- the type of row that a field names
abbrev pub row_type_of : List ℕ → Option RowType
row_type_of field =
    if names_row_type Sheet field then Some Sheet
    else (if names_row_type Target field then Some Target
    else (if names_row_type Set field then Some Set
    else (if names_row_type Obs field then Some Obs
    else None)))

-- whether a row of a type may stand after a last row of a type, or first
abbrev pub may_follow : Option RowType → RowType → Bool
may_follow None Sheet = true
may_follow (Some Sheet) Target = true
may_follow (Some Target) Target = true
may_follow (Some Target) Set = true
may_follow (Some Set) Set = true
may_follow (Some Set) Obs = true
may_follow (Some Obs) Obs = true
may_follow _ _ = false

-- whether a sheet may end with a row of this type
abbrev pub may_end : Option RowType → Bool
may_end (Some Obs) = true
may_end _ = false
