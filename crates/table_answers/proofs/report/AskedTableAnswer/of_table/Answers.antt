use Rattle.table_answers.proofs.report.AskedTableAnswer.of_table.Goals as goal

pub returns-clause-held : goal.returns-clause-held
returns-clause-held c = rw c.station-station.ensures at c.in_ok-adjustment.ensures.held
