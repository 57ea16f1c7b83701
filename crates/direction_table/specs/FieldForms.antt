-- The fields of a row, and what is loose in them: white space around them, blank ones at the end.
use Rattle.std.specs.Prelude.{ℕ, ◌-◌, Bool, if◌then◌else◌, List, [], ◌∷◌, length, take, drop}
use Rattle.std.specs.Char.{is_ascii_whitespace}
use Rattle.std.specs.List.{list_all, list_any, prefix_len, suffix_len}
use Rattle.std.specs.Str.{bytes_eq}

-- Whether some of these names is this one.
abbrev pub has_name : List (List ℕ) → List ℕ → Bool
has_name names name = list_any (λ other. bytes_eq other name) names

-- A field without the white space before it.
abbrev pub without_blanks_before : List ℕ → List ℕ
without_blanks_before field = drop (prefix_len is_ascii_whitespace field) field

-- A field without the white space after it.
abbrev pub without_blanks_after : List ℕ → List ℕ
without_blanks_after field = take (length field - suffix_len is_ascii_whitespace field) field

-- A field without the white space around it.
abbrev pub without_blanks : List ℕ → List ℕ
without_blanks field = without_blanks_after (without_blanks_before field)

-- Whether a field has nothing but white space.
abbrev pub is_blank : List ℕ → Bool
is_blank field = list_all is_ascii_whitespace field

-- The name that a field writes: as it stands, where a target has that name; else without the white
-- space around it.
abbrev pub named : List (List ℕ) → List ℕ → List ℕ
named targets field = if has_name targets field then field else without_blanks field

-- A row without what is loose in it: the first field as a name, the second without the white space
-- around it, and without the blank fields after these.
abbrev pub tidy : List (List ℕ) → List (List ℕ) → List (List ℕ)
tidy targets [] = []
tidy targets (name ∷ []) = named targets name ∷ []
tidy targets (name ∷ direction ∷ others) =
    named targets name ∷ without_blanks direction
    ∷ (if list_all is_blank others then [] else others)
