-- Where the lines of a file begin, from 0.
use Rattle.std.specs.Prelude.{ℕ, ◌+◌, Bool, true, false, List, [], ◌∷◌, length}
use Rattle.gsi_file.specs.Parts.{parts, is_line}

-- The place of a part, where it is a line, and then these places.
abbrev pub with_place : Bool → ℕ → List ℕ → List ℕ
with_place true at later = at ∷ later
with_place false at later = later

-- The places where the lines among these parts begin, of which the first begins at this place. A
-- byte that ends a line stands between two parts.
abbrev pub places_from : ℕ → List (List ℕ) → List ℕ
places_from at [] = []
places_from at (part ∷ rest) =
    with_place (is_line part) at (places_from (at + length part + 1) rest)

-- The places where the numbered lines of a file begin.
abbrev pub line_places : List ℕ → List ℕ
line_places bytes = places_from 0 (parts bytes)
