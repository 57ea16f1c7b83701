use Rattle.std.proofs.Common.{◌∙◌, map, refl}
use Rattle.csv.specs.Records.{fields_of}
use Rattle.direction_table.specs.Faults.{column_rules}
use Rattle.direction_table.specs.FoundColumns.{rows_by_pair}
use Rattle.direction_table.proofs.FaultTests.{no-table, table-test}
use Rattle.direction_table.proofs.RowsPicked.{if-ok}
use Rattle.direction_table.proofs.picked.are_table.Goals as goal

pub returns-in-Ok : goal.returns-in-Ok
returns-in-Ok c =
    c.are_all_stated.ensures
    ∙ table-test c.args.unit c.args.targets.now (column_rules c.args.unit c.args.targets.now)
    (rows_by_pair c.args.unit c.args.targets.now c.args.pair (map fields_of c.args.rows.now))
    _ c.in-Ok.ensures.faultless (c.deref.ensures.value ∙ c.in-Ok.ensures.stated)

pub returns-in-Err : goal.returns-in-Err
returns-in-Err c =
    if-ok c.none_or_memory.result _ _ _ c.none_or_memory.ensures.none c.none_or_memory.ensures.known
    (λ are none known. none ∙ no-table c.args.unit c.args.targets.now
    (column_rules c.args.unit c.args.targets.now) (λ rows. refl)
    (rows_by_pair c.args.unit c.args.targets.now c.args.pair (map fields_of c.args.rows.now))
    c.in-Err.fault c.in-Err.ensures.fault known)
