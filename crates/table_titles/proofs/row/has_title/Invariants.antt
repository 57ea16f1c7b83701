use Rattle.std.proofs.Common.{◌≡◌, drop}
use Rattle.csv.specs.Records.{fields_of}
use Rattle.table_titles.specs.Titles.{has_title}
use Rattle.table_titles.proofs.row.has_title.Given as goal

abbrev pub invariant-loop-place : goal.invariant-loop-place
invariant-loop-place l =
    has_title l.title (drop l.place (fields_of l.row)) ≡ has_title l.title (fields_of l.row)
