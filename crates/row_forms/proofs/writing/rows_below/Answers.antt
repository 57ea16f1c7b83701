use Rattle.std.proofs.Common.{[], ap}
use Rattle.std.specs.Prelude.{Some}
use Rattle.row_forms.proofs.writing.rows_below.Goals as goal

pub returns : goal.returns
returns c =
    c.in_ok-write_row.ensures c.args.form []
    (c.rows_in-writer.ensures (ap (λ items. Some items) c.new.ensures.items))
