-- What is told after a list that is empty though there are readings (profile).
use Rattle.std.specs.Prelude.{ℕ, List, [], ◌∷◌, ◌++◌, ◌==◌, if◌then◌else◌, codes, decimal}
use Rattle.std.specs.List.{count_by}
use Rattle.station_book.specs.Blocks.{has_direction}
use Rattle.station_book.specs.Places.{History}
use Rattle.station_book.specs.Stations.{SurveyedStation}

-- How many readings went unchecked, for they stand in no set: of a file without stations, how many
-- of its blocks are measurements with a direction. Of a file with stations none is told.
abbrev pub unchecked_in : List SurveyedStation → History → ℕ
unchecked_in [] blocks = count_by has_direction blocks
unchecked_in (s ∷ stations) blocks = 0

-- that so many readings stand: one stands
abbrev pub standing : ℕ → List ℕ
standing count = if count == 1 then codes " reading stands" else codes " readings stand"

-- the line that tells of so many
abbrev pub unchecked_line : ℕ → List ℕ
unchecked_line count =
    codes "note: nothing was checked: " ++ (decimal count ++ (standing count
    ++ codes " in no set; station_check mark puts codes into a copy\n"))

-- The note of so many unchecked readings: none has no note.
abbrev pub unchecked_note : ℕ → List ℕ
unchecked_note count = if count == 0 then [] else unchecked_line count
