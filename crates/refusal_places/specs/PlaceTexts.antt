-- A place as a row of text.
use Rattle.std.specs.Prelude.{ℕ, List, [], ◌++◌, Option, Some, None, codes, decimal}
use Rattle.refusal_places.specs.declared.named.Named.{Named}
use Rattle.refusal_places.specs.declared.named.Named.TheVariants.{Block, SheetRow, TableRow, Target}
use Rattle.refusal_places.specs.declared.named.Named.TheVariants.{Set, Observation, StationTarget}
use Rattle.refusal_places.specs.declared.named.Named.TheVariants.{StationObservation}
use Rattle.refusal_places.specs.declared.place.Found.{Found}
use Rattle.refusal_places.specs.declared.place.Place.{Place}
use Rattle.refusal_places.specs.declared.span.Span.{Span}

-- the name of what is named
abbrev pub name_of : Named → List ℕ
name_of (Block number) = codes "block"
name_of (SheetRow number) = codes "sheet row"
name_of (TableRow number) = codes "table row"
name_of (Target number) = codes "target"
name_of (Set number) = codes "set"
name_of (Observation number) = codes "observation"
name_of (StationTarget number) = codes "station target"
name_of (StationObservation number) = codes "station observation"

-- its number
abbrev pub number_in : Named → ℕ
number_in (Block number) = number
number_in (SheetRow number) = number
number_in (TableRow number) = number
number_in (Target number) = number
number_in (Set number) = number
number_in (Observation number) = number
number_in (StationTarget number) = number
number_in (StationObservation number) = number

-- a comma, and a number where there is one
abbrev pub cell : Option ℕ → List ℕ
cell (Some number) = codes "," ++ decimal number
cell None = codes ","

-- the place of the first byte of a part of a file, and that after its last
abbrev pub span_cells : Option Span → List ℕ
span_cells (Some span) = cell (Some span.first) ++ cell (Some span.end)
span_cells None = cell None ++ cell None

-- the row, and these
abbrev pub found_cells : Found → List ℕ
found_cells found = cell found.row ++ span_cells found.span

-- what is named, its number, where it is found, and which part of it is meant
abbrev pub place_row : Option Place → List ℕ
place_row (Some p) =
    name_of p.named
    ++ (cell (Some (number_in p.named))
    ++ (found_cells p.found ++ (span_cells p.meant ++ codes "\n")))
place_row None = []

-- titles, and that row, where there is one
abbrev pub place_text : Option Place → List ℕ
place_text place =
    codes "what,number,row,first,end,meant_first,meant_end\n" ++ place_row place
