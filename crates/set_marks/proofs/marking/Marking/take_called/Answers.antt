use Rattle.std.proofs.Common.{◌≡◌, None, rules, subst, sym}
use Rattle.std.specs.Prelude.{OnOk}
use Rattle.set_marks.specs.declared.division.Divided.{Divided}
use Rattle.set_marks.specs.declared.division.Divided.TheVariants.{Sets}
use Rattle.set_marks.specs.declared.judging.StationNames.{StationNames}
use Rattle.set_marks.specs.Stations.{Occupation}
use Rattle.set_marks.specs.Divisions.{divided_unless}
use Rattle.set_marks.specs.Ways.{divided}
use Rattle.set_marks.specs.Judging.{sets_fault, targets_fault}
use Rattle.set_marks.specs.Keeping.{TakesStation, before_in}
use Rattle.job_statements.specs.Numbers.{numbers_of, said_in}
use Rattle.set_marks.proofs.Few.{few_sets}
use Rattle.set_marks.proofs.Taken.{with_sets}
use Rattle.set_marks.proofs.marking.Marking.take_called.Goals as goal

pub take_sets-requires-clause-few : goal.take_sets-requires-clause-few
take_sets-requires-clause-few c =
    let numbers = numbers_of (said_in c.args.self.now.stated) c.args.name.now in
    let divides : divided numbers c.args.sights.now ≡ Sets c.in-Sets.span = search rules in
    few_sets numbers c.args.sights.now c.in-Sets.span divides

pub returns-in-None-sets_fault-clause-takes : goal.returns-in-None-sets_fault-clause-takes
returns-in-None-sets_fault-clause-takes c =
    let s : Occupation = record { name = c.args.name.now; sights = c.args.sights.now } in
    let old = c.args.self.now in
    let new = c.take_sets.new.self in
    let span = c.in-Sets.span in
    let divides : divided (numbers_of (said_in old.stated) s.name) s.sights ≡ Sets span =
    search rules in
    let none : sets_fault (before_in old.names) c.args.line.now s span ≡ None = search rules in
    let wanted = divided_unless (targets_fault s span) span in
    subst (λ (d : Divided). OnOk c.take_sets.result
    (TakesStation c.args.line.now c.args.written_again s d old new))
    (sym (with_sets (said_in old.stated) (before_in old.names) c.args.line.now s span divides none))
    (subst (λ (names : StationNames). OnOk c.take_sets.result
    (TakesStation c.args.line.now c.args.written_again s wanted (record {
      stated = old.stated;
      marks = old.marks;
      stations = old.stations;
      names = names;
      in_set = old.in_set;
    }) new)) c.in-None-sets_fault.ensures.unchanged c.take_sets.ensures.takes)
