-- Lines of a table that are of no one station.
use Rattle.std.specs.Prelude.{◌+◌, ◌==◌, ◌&&◌, ℕ, Bool, List, [], ◌∷◌, drop, filter, length, not}
use Rattle.std.specs.Prelude.{Option, Some, None, if◌then◌else◌}
use Rattle.std.specs.Char.{is_ascii_digit}
use Rattle.std.specs.List.{list_any}
use Rattle.station_book.specs.Stations.{SurveyedStation}
use Rattle.station_tables.specs.Lines.{has_text}
use Rattle.station_tables.specs.Said.{is_of}

-- Of how many of these stations a line is.
abbrev pub of_how_many : List SurveyedStation → List ℕ → ℕ
of_how_many stations line = length (filter (λ its. is_of its.station.name line) stations)

-- Something stands in a line, and it is of none of these stations, or of more than one.
abbrev pub is_stray : List SurveyedStation → List ℕ → Bool
is_stray stations line = has_text line && not (of_how_many stations line == 1)

-- The number of the first line that is so; the first of these has this number.
unfoldable pub stray_from : List SurveyedStation → ℕ → List (List ℕ) → Option ℕ
stray_from stations number [] = None
stray_from stations number (line ∷ others) =
    if is_stray stations line then Some number else stray_from stations (number + 1) others

-- A digit stands in a line.
abbrev pub has_digit : List ℕ → Bool
has_digit line = list_any is_ascii_digit line

-- How many lines of titles a table begins with: its first is one where no digit stands in it, so
-- that it states no direction.
abbrev pub title_lines : List (List ℕ) → ℕ
title_lines [] = 0
title_lines (line ∷ others) = if has_digit line then 0 else 1

-- The number, from 1, of the first line but those of titles that is a stray.
abbrev pub first_stray : List SurveyedStation → List (List ℕ) → Option ℕ
first_stray stations lines =
    stray_from stations (title_lines lines + 1) (drop (title_lines lines) lines)
