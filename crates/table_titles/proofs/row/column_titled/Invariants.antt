use Rattle.std.proofs.Common.{◌≡◌, drop}
use Rattle.csv.specs.Records.{fields_of}
use Rattle.table_titles.specs.Titles.{columns_from}
use Rattle.table_titles.proofs.Cells.{found_so_far}
use Rattle.table_titles.proofs.row.column_titled.Given as goal

abbrev pub invariant-loop-place : goal.invariant-loop-place
invariant-loop-place l =
    found_so_far l.found (columns_from l.title l.place (drop l.place (fields_of l.row)))
    ≡ columns_from l.title 0 (fields_of l.row)
