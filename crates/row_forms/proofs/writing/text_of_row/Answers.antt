use Rattle.row_forms.proofs.writing.text_of_row.Goals as goal

pub returns : goal.returns
returns c = c.written_text.ensures c.args.form _ c.in_ok-rows_below.ensures
