use Rattle.std.proofs.Common.{ℕ, List, ◌++◌, map, take}
use Rattle.row_forms.specs.Forms.{rows_text}
use Rattle.row_forms.specs.Writing.{HasWritten}
use Rattle.station_differences.specs.DifferenceTexts.{are_short, row_of}
use Rattle.station_differences.specs.Lines.{compared_of}
use Rattle.station_differences.specs.Medians.{median_of}
use Rattle.station_differences.proofs.text.push_rows.Given as goal

abbrev pub invariant-loop-line : goal.invariant-loop-line
invariant-loop-line g l = (text : List ℕ)
    → HasWritten l.form g.W.Write.contents l.fn.writer text
    → HasWritten l.form g.W.Write.contents l.writer (text
    ++ rows_text l.form (map (row_of l.form (are_short (compared_of l.lines))
    (median_of (compared_of l.lines))) (take l.line-index l.lines)))
