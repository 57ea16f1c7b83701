-- A field book that grows by one block after another.
use Rattle.std.specs.Prelude.{List, [], ◌∷◌, ◌++◌, Option, ⊤, if◌then◌else◌}
use Rattle.std.specs.Option.{option_map}
use Rattle.gsi_word.specs.Blocks.{GsiBlock}
use Rattle.station_book.specs.Blocks.{role_of, has_direction, number}
use Rattle.book_tree.specs.Tree.{Tree, grown_by, name_in, code_faults, HasNone}
use Rattle.set_marks.specs.Found.{Found}

-- the field book after more blocks
abbrev pub after : Tree → List GsiBlock → Tree
after t [] = t
after t (b ∷ bs) = after (grown_by (role_of b) b t) bs

-- where a reading is found that comes now
abbrev pub found_now : Tree → Option Found
found_now t =
    option_map (λ s. record { station = name_in t.code; set = number s.code }) t.current

-- where the readings of these blocks are found
abbrev pub found_of : Tree → List GsiBlock → List (Option Found)
found_of t [] = []
found_of t (b ∷ bs) =
    (if has_direction b then found_now t ∷ [] else []) ++ found_of (grown_by (role_of b) b t) bs

-- None of these blocks has a fault of code lines.
abbrev pub AreFree : Tree → List GsiBlock → Type 0
AreFree t [] = ⊤
AreFree t (b ∷ bs) =
    HasNone (code_faults (role_of b) t b) × AreFree (grown_by (role_of b) b t) bs
