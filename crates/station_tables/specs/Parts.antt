-- The part of a station in a table of all, and where its rows stand in that.
use Rattle.std.specs.Prelude.{◌+◌, ◌-◌, ℕ, Bool, false, List, [], ◌∷◌, ◌++◌, slice_index_or}
use Rattle.std.specs.Prelude.{Option, Some, None, if◌then◌else◌}
use Rattle.csv.specs.Machine.{line_feed}
use Rattle.station_tables.specs.Lines.{has_text}
use Rattle.station_tables.specs.Said.{said_of}

-- what is said, with a line feed
abbrev pub as_line : Option (List ℕ) → List ℕ
as_line None = []
as_line (Some said) = said ++ (line_feed ∷ [])

-- The part of the station of this name: what each line of it says, in their order.
unfoldable pub part_of : List ℕ → List (List ℕ) → List ℕ
part_of name [] = []
part_of name (line ∷ others) = as_line (said_of name line) ++ part_of name others

-- whether something is said
abbrev pub says_something : Option (List ℕ) → Bool
says_something None = false
says_something (Some said) = has_text said

-- A line is a row of a station where it says something of it.
abbrev pub has_row : List ℕ → List ℕ → Bool
has_row name line = says_something (said_of name line)

-- The numbers of the lines that are rows of a station, of which the first has this number.
unfoldable pub row_numbers : List ℕ → ℕ → List (List ℕ) → List ℕ
row_numbers name number [] = []
row_numbers name number (line ∷ others) =
    if has_row name line then number ∷ row_numbers name (number + 1) others
    else row_numbers name (number + 1) others

-- The line, from 1, of the row of this number, from 1, in a station's part; 0 where it has fewer.
abbrev pub line_of_row : List ℕ → List (List ℕ) → ℕ → ℕ
line_of_row name lines row = slice_index_or (row_numbers name 1 lines) (row - 1) 0
