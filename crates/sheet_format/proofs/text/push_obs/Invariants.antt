use Rattle.std.proofs.Common.{ℕ, List, ◌++◌, map, take}
use Rattle.sheet_format.specs.Rows.{obs_fields}
use Rattle.sheet_format.specs.Texts.{HasWritten, rows_text}
use Rattle.sheet_format.proofs.text.push_obs.Given as goal

abbrev pub invariant-loop-row : goal.invariant-loop-row
invariant-loop-row g l = (text : List ℕ) → HasWritten g.W.Write.contents l.fn.writer text
    → HasWritten g.W.Write.contents l.writer (text
    ++ rows_text (map obs_fields (take l.row-index l.rows)))
