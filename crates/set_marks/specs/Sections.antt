-- The sets of a station, each with its least direction, by which the code tells most sets apart.
use Rattle.std.specs.Prelude.{◌≡◌, ℕ, min, List, [], ◌∷◌, map, ⊤}
use Rattle.set_marks.specs.declared.equal_sets.Section.{Section}
use Rattle.set_marks.specs.declared.sight.Sight.{Sight}
use Rattle.set_marks.specs.Divisions.{part}

-- the least of this number and of the directions of these readings
abbrev pub least_with : ℕ → List Sight → ℕ
least_with least [] = least
least_with least (r ∷ rs) = least_with (min least r.angles.hz) rs

-- the least direction of these readings, or the greatest number of 32 bits if there are none
abbrev pub least_direction : List Sight → ℕ
least_direction rs = least_with 4294967295 rs

-- the readings of this set, which are some of a station's
abbrev pub section : List Sight → Section → List Sight
section rs s = part s.from s.to rs

-- the readings of each of these sets
abbrev pub sections : List Sight → List Section → List (List Sight)
sections rs ss = map (section rs) ss

-- Each of these sets has its least direction with it.
abbrev pub AreLeast : List Sight → List Section → Type 0
AreLeast rs [] = ⊤
AreLeast rs (s ∷ ss) = (s.least ≡ least_direction (section rs s)) × AreLeast rs ss
