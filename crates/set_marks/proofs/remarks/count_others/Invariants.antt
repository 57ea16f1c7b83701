use Rattle.std.proofs.Common.{◌≡◌, length}
use Rattle.std.specs.Prelude.{filter}
use Rattle.set_marks.specs.Divisions.{names_with}
use Rattle.set_marks.specs.Remarks.{seems_of_another, others_after}
use Rattle.set_marks.specs.Searching.{KnowsTargetsOf, KeepsFaces}
use Rattle.set_marks.proofs.remarks.count_others.Given as goal

abbrev pub invariant-sights : goal.invariant-sights
invariant-sights l = record {
  found : names_with l.others (filter (seems_of_another l.in_sets l.after) l.left)
      ≡ others_after l.in_sets l.after;
  known : KnowsTargetsOf l.in_sets l.known;
  kept : KeepsFaces l.after l.faces;
}

abbrev pub decreases-sights : goal.decreases-sights
decreases-sights l = length l.left
