use Rattle.list_rows.proofs.CellLaws.{title-row, title-row-of-semicolons}
use Rattle.list_rows.proofs.text.titles_in.Goals as goal

pub returns-in-Commas : goal.returns-in-Commas
returns-in-Commas c = rw c.in-Commas.is title-row

pub returns-in-Semicolons : goal.returns-in-Semicolons
returns-in-Semicolons c = rw c.in-Semicolons.is title-row-of-semicolons
