use Rattle.table_titles.proofs.OfRow.{left_by}
use Rattle.table_titles.proofs.columns.titled_columns.Goals as goal

pub returns-clause-reader : goal.returns-clause-reader
returns-clause-reader g c =
    left_by c.args.titles.targets.now c.args.titles.directions.now c.deref.result.now
    c.columns_by_titles.result _ c.columns_by_titles.ensures.columns c.in_ok-bytes.ensures.left
