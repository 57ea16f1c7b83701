use Rattle.std.proofs.Common.{ℕ, List, ◌++◌, map, take}
use Rattle.sheet_format.specs.Rows.{target_fields}
use Rattle.sheet_format.specs.Texts.{HasWritten, rows_text}
use Rattle.sheet_format.proofs.text.push_targets.Given as goal

abbrev pub invariant-loop-direction : goal.invariant-loop-direction
invariant-loop-direction g l = (text : List ℕ) → HasWritten g.W.Write.contents l.fn.writer text
    → HasWritten g.W.Write.contents l.writer (text
    ++ rows_text (map target_fields (take l.direction-index l.directions)))
