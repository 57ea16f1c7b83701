use Rattle.station_differences.proofs.text.rows_text_of.Goals as goal

pub returns : goal.returns
returns c =
    c.written_text.ensures c.args.form _ (c.in_ok-push_rows.ensures _ c.in_ok-writer.ensures)
