use Rattle.table_answers.proofs.OtherUnits.{faulty_disagrees, near_agrees}
use Rattle.table_answers.proofs.other_unit.agrees.Goals as goal

pub returns-in-Ok : goal.returns-in-Ok
returns-in-Ok c =
    let stated = c.in-Ok.stated in
    near_agrees c.args.form c.args.station.now c.args.bytes.now stated.directions.items
    stated.most_off stated.usual_within c.is_near.result (record {
      states = rw c.targets.ensures.value at c.in-Ok.ensures.table;
      off_is = rw c.targets.ensures.value at c.in-Ok.ensures.most_off;
      limit_is = rw c.targets.ensures.value at c.in-Ok.ensures.usual_within;
    }) c.is_near.ensures

pub returns-in_ok-known-in-Err : goal.returns-in_ok-known-in-Err
returns-in_ok-known-in-Err c = (
  λ h. absurd cc,
  λ agrees. absurd (faulty_disagrees c.args.form c.args.station.now c.args.bytes.now
      c.in-Err.fault (rw c.targets.ensures.value at c.in-Err.ensures.fault)
      c.in_ok-known-in-Err.ensures agrees),
)
