-- Where the range of a target's zenith angles stands among those of others: so the code finds it.
use Rattle.std.specs.Prelude.{◌≡◌, ℕ, suc, Bool, false, List, [], ◌∷◌, if◌then◌else◌, ⊤, map}
use Rattle.std.specs.Str.{bytes_eq}
use Rattle.station_book.specs.Places.{is_among}
use Rattle.set_marks.specs.declared.zeniths.ZenithRange.{ZenithRange}

-- the place of a name among these, or the place after the last of them if it is none of them
abbrev pub place_among : List (List ℕ) → List ℕ → ℕ
place_among [] name = 0
place_among (n ∷ names) name = if bytes_eq n name then 0 else suc (place_among names name)

-- the targets of these ranges
abbrev pub targets_in : List ZenithRange → List (List ℕ)
targets_in zs = map (λ z. z.target) zs

-- the place of the first range of this target, or the place after the last range if there is none
abbrev pub place_in : List ℕ → List ZenithRange → ℕ
place_in name zs = place_among (targets_in zs) name

-- whether one of these ranges is of this target
abbrev pub has_range : List ℕ → List ZenithRange → Bool
has_range name zs = is_among (targets_in zs) name

-- No two of these ranges are of one target.
abbrev pub IsUnique : List ZenithRange → Type 0
IsUnique [] = ⊤
IsUnique (z ∷ zs) = (has_range z.target zs ≡ false) × IsUnique zs
