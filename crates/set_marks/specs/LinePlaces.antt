-- How code lines are found by the places where the lines of their file begin.
use Rattle.std.specs.Prelude.{ℕ, suc, List, [], ◌∷◌, ◌++◌, map}
use Rattle.set_marks.specs.declared.mark.BlockMark.{BlockMark}
use Rattle.set_marks.specs.declared.mark.Mark.{Mark}
use Rattle.set_marks.specs.Placing.{placed_at, marks_of_block, marks_after}

-- The code lines of the blocks whose lines begin at these places, after so many lines.
abbrev pub placed_by : List ℕ → ℕ → List ℕ → List BlockMark → List Mark
placed_by bytes number [] ms = []
placed_by bytes number (at ∷ begins) ms =
    map (placed_at bytes at) (marks_of_block (suc number) ms)
    ++ placed_by bytes (suc number) begins (marks_after (suc number) ms)
