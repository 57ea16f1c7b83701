use Rattle.station_report.proofs.NotesApart.{apart}
use Rattle.station_report.proofs.laws.notes_apart.Goals as goal

pub returns : goal.returns
returns c = apart
