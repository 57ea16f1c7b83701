use Rattle.std.proofs.Common.{◌≡◌, ◌++◌, map, take, zip}
use Rattle.adjust_kernel.specs.Matching.{observed}
use Rattle.list_rows.specs.RowTexts.{row_of}
use Rattle.row_forms.specs.Forms.{rows_text}
use Rattle.list_rows.proofs.text.push_surveyed.Given as goal

abbrev pub invariant-observations : goal.invariant-observations
invariant-observations l = l.text.items ≡ l.fn.text.items
    ++ rows_text l.fn.form (map (row_of l.fn.form l.surveyed.station.name)
    (take l.place (zip (observed l.surveyed.station) l.surveyed.faces)))
