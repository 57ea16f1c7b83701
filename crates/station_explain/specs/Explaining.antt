-- What is printed of faults.
use Rattle.std.specs.Prelude.{◌≡◌, ◌-◌, ◌∷◌, ◌++◌, [], ℕ, List, Option, Some, None, codes}
use Rattle.std.specs.Borrow.{Bor}
use Rattle.std.specs.Fmt.{char_count}
use Rattle.std.specs.List.{join_by, flat_map, repeat}
use Rattle.station_explain.specs.Table.{Explanation}

-- What a fault means: its names, what it is, when it comes, a line that names it, and what to do.
abbrev pub meaning_text : Explanation → List ℕ
meaning_text e = flat_map (λ piece. piece)
    (join_by (λ name. name.now) (codes ", ") e.names.now ∷ codes ": " ∷ e.meaning.now
    ∷ codes "\n\n" ∷ e.when.now ∷ codes "\n\n  " ∷ e.example.now
    ∷ codes "\n\nWhat to do: " ∷ e.remedy.now ∷ codes "\n" ∷ [])

-- A text, and after it blanks until it has so many characters.
abbrev pub filled : ℕ → List ℕ → List ℕ
filled width text = text ++ repeat (width - char_count text) (codes " ")

-- The line of a name in the list of all names: the name, filled to 16 characters, two blanks, and
-- what the fault is.
abbrev pub name_line : List ℕ → List ℕ → List ℕ
name_line name meaning = flat_map (λ piece. piece)
    (filled 16 name ∷ codes "  " ∷ meaning ∷ codes "\n" ∷ [])

-- The lines of a fault: one for each of its names.
abbrev pub name_lines : Explanation → List ℕ
name_lines e = flat_map (λ name. name_line name.now e.meaning.now) e.names.now

-- The list of all names: the lines of each fault of each group of the table.
abbrev pub list_text : List (Bor (List Explanation)) → List ℕ
list_text table = flat_map (λ group. flat_map name_lines group.now) table

-- What is printed of a fault, or the list of all names where none is asked for.
abbrev pub Explains : List (Bor (List Explanation)) → Option Explanation → List ℕ → Type 0
Explains table (Some e) text = text ≡ meaning_text e
Explains table None text = text ≡ list_text table
