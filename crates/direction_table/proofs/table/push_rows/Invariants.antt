use Rattle.std.proofs.Common.{ℕ, List, ◌++◌, take}
use Rattle.direction_table.specs.TableTexts.{table_text}
use Rattle.row_forms.specs.Writing.{HasWritten}
use Rattle.direction_table.proofs.table.push_rows.Given as goal

abbrev pub invariant-loop-row : goal.invariant-loop-row
invariant-loop-row g l = (text : List ℕ) → HasWritten l.form g.W.Write.contents l.fn.writer text
    → HasWritten l.form g.W.Write.contents l.writer (text ++ table_text l.form l.decimals
    (take l.row-index l.stated))
