use Rattle.std.proofs.Common.{◌∙◌, Some, None, arith, inl}
use Rattle.csv.specs.Records.{fields_of}
use Rattle.table_titles.proofs.OfRow.{of_row}
use Rattle.table_titles.proofs.columns.columns_by_titles.Goals as goal

pub returns-in-Some-clause-columns : goal.returns-in-Some-clause-columns
returns-in-Some-clause-columns c =
    inl (c.columns_in_row.ensures
    ∙ of_row c.args.titles.targets.now c.args.titles.directions.now c.args.bytes.now
    (Some (fields_of c.in-Some.row)) (omega arith) (rw c.in-Some.is at c.in_ok-row.ensures.row))

pub returns-in-None-clause-columns : goal.returns-in-None-clause-columns
returns-in-None-clause-columns c =
    inl (of_row c.args.titles.targets.now c.args.titles.directions.now c.args.bytes.now None
    (omega arith) (rw c.in-None.is at c.in_ok-row.ensures.row))
