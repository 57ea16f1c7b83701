-- By what the fields of a table's rows are separated: its first row tells.
use Rattle.std.specs.Prelude.{ℕ, Bool, false, List, [], ◌∷◌, map}
use Rattle.std.specs.Prelude.{filter, find, length, nat_le, unwrap_or}
use Rattle.csv.specs.Reading.{default_config, records, strip_bom}
use Rattle.csv.specs.declared.parser.Config.{Config}
use Rattle.direction_table.specs.FieldForms.{has_name, named, tidy}
use Rattle.direction_table.specs.declared.separator.Separator.{Separator}
use Rattle.direction_table.specs.declared.separator.Separator.TheVariants.{Comma, Semicolon, Tab}
use Rattle.direction_table.specs.declared.separator.Separator.TheVariants.{Blanks}

-- The byte of a separator.
abbrev pub byte_of : Separator → ℕ
byte_of Comma = 44
byte_of Semicolon = 59
byte_of Tab = 9
byte_of Blanks = 32

-- How `csv` reads rows with a separator: as it does by default, but for the separator.
abbrev pub config_of : Separator → Config
config_of separator = record default_config { delimiter = byte_of separator }

-- Whether a field has a byte.
abbrev pub has_byte : List ℕ → Bool
has_byte field = nat_le 1 (length field)

-- The fields of a record that count: all, but that a run of blanks separates as one blank does, so
-- that there is no field within it.
abbrev pub kept : Separator → List (List ℕ) → List (List ℕ)
kept Comma fields = fields
kept Semicolon fields = fields
kept Tab fields = fields
kept Blanks fields = filter has_byte fields

-- The rows of a text by a separator: a byte order mark at the start is dropped, and lines without a
-- byte are passed over.
abbrev pub rows_by : Separator → List ℕ → List (List (List ℕ))
rows_by separator bytes = map (kept separator) (records (config_of separator) (strip_bom bytes))

-- The first of some rows, or one without fields where there is none.
abbrev pub first_of : List (List (List ℕ)) → List (List ℕ)
first_of [] = []
first_of (row ∷ rows) = row

-- Whether a row begins with a target's name.
abbrev pub begins_with_target : List (List ℕ) → List (List ℕ) → Bool
begins_with_target targets [] = false
begins_with_target targets (field ∷ others) = has_name targets (named targets field)

-- Whether a row has two columns or more.
abbrev pub is_wide : List (List ℕ) → Bool
is_wide row = nat_le 2 (length row)

-- The first of comma, semicolon, tab and blanks by which the first row begins with a target's name.
-- Where none is so, as with a row of titles: the first of semicolon, tab and comma that separates
-- the first row into two columns or more, else blanks.
unfoldable pub separator_of : List (List ℕ) → List ℕ → Separator
separator_of targets bytes =
    unwrap_or
    (find (λ s. begins_with_target targets (first_of (rows_by s bytes)))
    (Comma ∷ Semicolon ∷ Tab ∷ Blanks ∷ []))
    (unwrap_or
    (find (λ s. is_wide (first_of (rows_by s bytes))) (Semicolon ∷ Tab ∷ Comma ∷ []))
    Blanks)

-- The rows of a table, tidied: its records by its separator.
unfoldable pub rows_of : List (List ℕ) → List ℕ → List (List (List ℕ))
rows_of targets bytes = map (tidy targets) (rows_by (separator_of targets bytes) bytes)
