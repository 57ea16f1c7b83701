use Rattle.table_answers.proofs.OtherUnits.{in_none, not_so}
use Rattle.table_answers.proofs.other_unit.first_unit.Goals as goal

pub returns : goal.returns
returns c =
    in_none c.args.form c.args.station.now c.args.bytes.now
    (not_so _ c.in_ok-agrees_in.ensures c.if-branch.false)
    (not_so _ c.in_ok-agrees_in-2.ensures c.if-branch-2.false)
    (not_so _ c.in_ok-agrees_in-3.ensures c.if-branch-3.false)
