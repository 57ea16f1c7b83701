-- The parts and the lines of the bytes of a file (profile).
use Rattle.std.specs.Prelude.{◌≡◌, ℕ, ◌-◌, Bool, false, All, not, ◌||◌, ◌==◌, List, length, take}
use Rattle.std.specs.Prelude.{filter}
use Rattle.std.specs.List.{slice_split, list_all}
use Rattle.gsi_word.specs.Bytes.{blank}

-- A carriage return ends a line, and so does a line feed: after both of them stands an empty part.
abbrev pub is_line_end : ℕ → Bool
is_line_end b = b == 10 || b == 13

-- None of the bytes ends a line.
abbrev pub HasNoEnd : List ℕ → Type 0
HasNoEnd bytes = All (λ b. is_line_end b ≡ false) bytes

-- The pieces before, between and after the bytes that end lines.
abbrev pub parts : List ℕ → List (List ℕ)
parts bytes = slice_split is_line_end bytes

-- Whether a part has no byte other than a blank.
abbrev pub is_blank : List ℕ → Bool
is_blank part = list_all (λ b. b == blank) part

-- Whether a part is a line, and numbered: it is not blank.
abbrev pub is_line : List ℕ → Bool
is_line part = not (is_blank part)

-- All but the last.
abbrev pub front_of : {A : Type 0} → List A → List A
front_of xs = take (length xs - 1) xs

-- The lines, of which the first has number 1; the last part may lack a byte that ends it.
abbrev pub numbered_lines : List ℕ → List (List ℕ)
numbered_lines bytes = filter is_line (parts bytes)

-- The lines that a byte has ended: those of all parts but the last.
abbrev pub ended_lines : List ℕ → List (List ℕ)
ended_lines bytes = filter is_line (front_of (parts bytes))
