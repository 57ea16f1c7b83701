-- Where the code lines of a file's blocks are put in.
use Rattle.std.specs.Prelude.{ℕ, suc, ◌+◌, ◌==◌, List, [], ◌∷◌, ◌++◌, length, map, if◌then◌else◌}
use Rattle.gsi_file.specs.Parts.{parts, is_line}
use Rattle.set_marks.specs.declared.mark.BlockMark.{BlockMark}
use Rattle.set_marks.specs.declared.mark.Mark.{Mark}
use Rattle.gsi_file.specs.Beside.{end_beside}

-- the code lines of the block of this number that come first of these
abbrev pub marks_of_block : ℕ → List BlockMark → List BlockMark
marks_of_block number [] = []
marks_of_block number (m ∷ ms) = if m.block == number then m ∷ marks_of_block number ms else []

-- the code lines after those
abbrev pub marks_after : ℕ → List BlockMark → List BlockMark
marks_after number [] = []
marks_after number (m ∷ ms) = if m.block == number then marks_after number ms else m ∷ ms

-- a code line at a place of a file, with the end of the lines beside it
abbrev pub placed_at : List ℕ → ℕ → BlockMark → Mark
placed_at bytes at m = record {
  at = at;
  wide = m.wide;
  line_end = end_beside bytes at;
  code = m.code;
}

-- The code lines of the lines among these parts, of which the first begins at this place, after so
-- many lines: a line's stand where it begins. A byte that ends a line stands between two parts.
abbrev pub placed_from : List ℕ → ℕ → ℕ → List BlockMark → List (List ℕ) → List Mark
placed_from bytes at number ms [] = []
placed_from bytes at number ms (part ∷ rest) =
    if is_line part
    then map (placed_at bytes at) (marks_of_block (suc number) ms)
    ++ placed_from bytes (at + length part + 1) (suc number) (marks_after (suc number) ms) rest
    else placed_from bytes (at + length part + 1) number ms rest

-- The code lines of a file, each where the line of its block begins.
abbrev pub placed : List ℕ → List BlockMark → List Mark
placed bytes ms = placed_from bytes 0 0 ms (parts bytes)
