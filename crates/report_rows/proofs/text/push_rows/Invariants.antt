use Rattle.std.proofs.Common.{ℕ, List, ◌++◌, map, take, zip}
use Rattle.report_rows.specs.RowTexts.{row_of}
use Rattle.row_forms.specs.Forms.{rows_text}
use Rattle.row_forms.specs.Writing.{HasWritten}
use Rattle.report_rows.proofs.text.push_rows.Given as goal

abbrev pub invariant-observations : goal.invariant-observations
invariant-observations g l = (text : List ℕ)
    → HasWritten l.form g.W.Write.contents l.fn.writer text
    → HasWritten l.form g.W.Write.contents l.writer (text
    ++ rows_text l.form (map (row_of l.form l.surveyed.station.name)
    (take l.place (zip l.rows l.surveyed.faces))))
