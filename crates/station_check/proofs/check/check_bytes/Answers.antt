use Rattle.station_check.proofs.check.check_bytes.Goals as goal

pub returns : goal.returns
returns g c = (c.check_sources-answer.result.1, c.check_sources-answer.ensures)
