use Rattle.std.proofs.Common.{ℕ, List, ◌++◌, map, take}
use Rattle.sheet_format.specs.Rows.{set_fields}
use Rattle.sheet_format.specs.Texts.{HasWritten, rows_text}
use Rattle.sheet_format.proofs.text.push_sets.Given as goal

abbrev pub invariant-loop-orientation : goal.invariant-loop-orientation
invariant-loop-orientation g l = (text : List ℕ) → HasWritten g.W.Write.contents l.fn.writer text
    → HasWritten g.W.Write.contents l.writer (text
    ++ rows_text (map set_fields (take l.orientation-index l.orientations)))
