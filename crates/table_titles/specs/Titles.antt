-- The two columns of a table with their titles (profile). A row is as the table's reader has it: its
-- cells by a separator, as `csv` reads them with quotes, after a byte order mark.
use Rattle.std.specs.Prelude.{ℕ, ◌+◌, Bool, nat_lt, if◌then◌else◌, List, [], ◌∷◌, find, length}
use Rattle.std.specs.Prelude.{Option, Some, None, Result, Ok, Err}
use Rattle.std.specs.List.{list_any}
use Rattle.std.specs.Option.{option_or}
use Rattle.std.specs.Str.{bytes_eq}
use Rattle.csv.specs.Reading.{records, strip_bom}
use Rattle.direction_table.specs.ByteSteps.{config_with}
use Rattle.direction_table.specs.FieldForms.{without_blanks}
use Rattle.direction_table.specs.StatedColumns.{two_columns}
use Rattle.direction_table.specs.declared.form.ColumnPair.{ColumnPair}
use Rattle.direction_table.specs.declared.reading.TheConstants.{LONGEST_TABLE}
use Rattle.table_titles.specs.declared.fault.TitlesFault.{TitlesFault}
use Rattle.table_titles.specs.declared.fault.TitlesFault.TheVariants as fault
use Rattle.table_titles.specs.declared.titles.TitleOf.{TitleOf}
use Rattle.table_titles.specs.declared.titles.TitleOf.TheVariants.{Targets, Directions}

-- The separators of cells.
abbrev pub comma : ℕ
comma = 44

abbrev pub semicolon : ℕ
semicolon = 59

abbrev pub tab : ℕ
tab = 9

-- A cell is a title: without the white space around it, it is the same byte by byte.
abbrev pub is_title : List ℕ → List ℕ → Bool
is_title title cell = bytes_eq (without_blanks cell) title

-- A cell of a row is a title.
abbrev pub has_title : List ℕ → List (List ℕ) → Bool
has_title title row = list_any (is_title title) row

-- The first row by a separator in which a cell is this title.
unfoldable pub title_row_by : List ℕ → List ℕ → ℕ → Option (List (List ℕ))
title_row_by title bytes separator =
    find (has_title title) (records (config_with separator) (strip_bom bytes))

-- The row of titles, by the title of targets: the first with it by commas; where none has it so, by
-- semicolons; and else by tabs.
unfoldable pub title_row : List ℕ → List ℕ → Option (List (List ℕ))
title_row title bytes =
    option_or (title_row_by title bytes comma)
    (option_or (title_row_by title bytes semicolon) (title_row_by title bytes tab))

-- The columns of a row whose cell is this title, where its first column has this number.
unfoldable pub columns_from : List ℕ → ℕ → List (List ℕ) → List ℕ
columns_from title first [] = []
columns_from title first (cell ∷ row) =
    if is_title title cell then first ∷ columns_from title (first + 1) row
    else columns_from title (first + 1) row

-- The one of some columns, which have this title.
abbrev pub the_one : TitleOf → List ℕ → Result ℕ TitlesFault
the_one of [] = Err (fault.NoTitle of)
the_one of (column ∷ []) = Ok column
the_one of (first ∷ second ∷ others) = Err (fault.TwiceTitled of)

-- Two columns, which are not the same.
abbrev pub are_two : Option ColumnPair → Result ColumnPair TitlesFault
are_two None = Err fault.SameTitle
are_two (Some pair) = Ok pair

-- Both columns; or the fault of the title of targets, and then that of directions.
abbrev pub both : Result ℕ TitlesFault → Result ℕ TitlesFault → Result ColumnPair TitlesFault
both (Err why) directions = Err why
both (Ok names) (Err why) = Err why
both (Ok names) (Ok directions) = are_two (two_columns names directions)

-- The two columns of a row with the titles of targets and of directions, counted from 0: exactly one
-- cell is the first, and exactly one, another, the second.
abbrev pub columns_in : List ℕ → List ℕ → List (List ℕ) → Result ColumnPair TitlesFault
columns_in targets directions row =
    both (the_one Targets (columns_from targets 0 row))
    (the_one Directions (columns_from directions 0 row))

-- Those of the row of titles.
abbrev pub columns_in_any : List ℕ → List ℕ → Option (List (List ℕ))
    → Result ColumnPair TitlesFault
columns_in_any targets directions None = Err (fault.NoTitle Targets)
columns_in_any targets directions (Some row) = columns_in targets directions row

-- Those of a table's bytes, which are not too many.
unfoldable pub columns_by_titles : List ℕ → List ℕ → List ℕ → Result ColumnPair TitlesFault
columns_by_titles targets directions bytes =
    if nat_lt LONGEST_TABLE (length bytes) then Err fault.TooLong
    else columns_in_any targets directions (title_row targets bytes)
