use Rattle.table_answers.proofs.OtherUnits.{near_agrees}
use Rattle.table_answers.proofs.part.agrees.Goals as goal

pub returns-in-Some : goal.returns-in-Some
returns-in-Some c = λ form bytes reads.
    let stated = c.in-Some.stated in
    near_agrees form c.args.station.now bytes stated.directions.items stated.most_off
    stated.usual_within c.is_near.result (rw c.in-Some.is at reads) c.is_near.ensures
