use Rattle.std.proofs.Common.{◌≡◌, ◌∷◌, ◌+◌, true, false, length, take, rules, sym, ◌∙◌, arith}
use Rattle.std.specs.List.{list_any}
use Rattle.set_marks.specs.Divisions.{is_of}
use Rattle.set_marks.proofs.Asking.{next_left, same_targets, more_targets}
use Rattle.set_marks.proofs.known.count_of_few.Goals as goal
use Rattle.set_marks.proofs.known.count_of_few.Goals.{then-not-reads_target, else-not-reads_target}

pub sights-preserved : goal.sights-preserved
sights-preserved c =
    let split : c.sights.left.now ≡ c.in-Some.sight.now ∷ c.in-Some.rest.now = search rules in
    let asked : c.reads_target.result
    ≡ list_any (is_of c.in-Some.sight.now.target) (take c.sights.at c.args.sights.now) =
    search rules in
    let before = c.sights.invariant.count_is in
    let few = c.sights.invariant.few in
    let long : length c.sights.left.now ≡ length c.in-Some.rest.now + 1 = search rules in
    let place = c.sights.invariant.place in
    let rest = next_left c.args.sights.now c.in-Some.rest.now c.sights.left.now c.in-Some.sight.now
    c.sights.at c.sights.invariant.rest split in
    elim c.if-not-reads_target.branch [
      | then-not-reads_target w ↦
          let none : c.reads_target.result ≡ false = search rules in
          let more = more_targets c.args.sights.now c.in-Some.rest.now c.sights.left.now
          c.in-Some.sight.now c.sights.at c.sights.invariant.rest split (sym asked ∙ none) in
          let now = w.count-is in
          record {
            count_is = omega (arith, now, more, before);
            rest = rest;
            place = omega (arith, long, place);
            few = omega (arith, now, few);
          }
      | else-not-reads_target w ↦
          let some : c.reads_target.result ≡ true = search rules in
          let same = same_targets c.args.sights.now c.in-Some.rest.now c.sights.left.now
          c.in-Some.sight.now c.sights.at c.sights.invariant.rest split (sym asked ∙ some) in
          let now = w.count-is in
          record {
            count_is = omega (arith, now, same, before);
            rest = rest;
            place = omega (arith, long, place);
            few = omega (arith, now, few);
          }
    ]
