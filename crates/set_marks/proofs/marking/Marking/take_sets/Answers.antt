use Rattle.std.proofs.Common.{◌≡◌, None, rules}
use Rattle.set_marks.specs.Judging.{targets_fault}
use Rattle.set_marks.specs.Stations.{Occupation}
use Rattle.set_marks.proofs.Taken.{takes_sets}
use Rattle.set_marks.proofs.marking.Marking.take_sets.Goals as goal

pub returns-clause-takes : goal.returns-clause-takes
returns-clause-takes c =
    let s : Occupation = record { name = c.args.name.now; sights = c.args.sights.now } in
    let none : targets_fault s c.args.span ≡ None = search rules in
    takes_sets c.args.line.now c.args.written_again s c.args.span _ _ none (record {
      stated = search rules;
      marks = c.in_ok-put_station.ensures.put;
      stations = search rules;
      names = search rules;
      in_set = search rules;
    })
