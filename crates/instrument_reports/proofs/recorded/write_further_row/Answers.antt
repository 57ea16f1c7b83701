use Rattle.instrument_reports.proofs.recorded.write_further_row.Goals as goal

pub returns : goal.returns
returns g c form = rw c.as_slice-none.ensures at (c.write_row.ensures form)
