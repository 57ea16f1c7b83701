use Rattle.table_answers.proofs.OtherUnits.{by_first, not_so}
use Rattle.table_answers.proofs.other_unit.other_unit.Goals as goal

pub first_unit-requires-clause-apart : goal.first_unit-requires-clause-apart
first_unit-requires-clause-apart c =
    not_so c.args.agrees c.requires.agrees c.if-agrees.false

pub returns : goal.returns
returns c =
    by_first c.args.form c.args.station.now c.args.bytes.now c.first_unit.result
    (not_so c.args.agrees c.requires.agrees c.if-agrees.false) c.first_unit.ensures
