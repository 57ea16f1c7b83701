use Rattle.table_answers.proofs.OtherUnits.{near_agrees}
use Rattle.table_answers.proofs.noted.note_of.Goals as goal

pub note_by-requires-clause-agrees : goal.note_by-requires-clause-agrees
note_by-requires-clause-agrees c =
    let stated = c.args.stated.now in
    near_agrees c.args.form c.args.station.now c.args.bytes.now stated.directions.items
    stated.most_off stated.usual_within c.is_near.result c.requires.read c.is_near.ensures
