use Rattle.std.proofs.Common.{◌≡◌, drop}
use Rattle.std.specs.List.{list_any}
use Rattle.csv.specs.Records.{fields_of}
use Rattle.direction_table.specs.FieldForms.{without_blanks}
use Rattle.direction_table.specs.TakenCells.{may_go_on}
use Rattle.direction_table.proofs.cell.goes_on_from.Given as goal

abbrev pub invariant-loop-place : goal.invariant-loop-place
invariant-loop-place l =
    list_any (λ field. may_go_on l.unit (without_blanks field)) (drop l.place (fields_of l.row))
    ≡ list_any (λ field. may_go_on l.unit (without_blanks field)) (drop l.from (fields_of l.row))
