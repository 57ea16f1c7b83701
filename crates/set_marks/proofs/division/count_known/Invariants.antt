use Rattle.std.proofs.Common.{◌≡◌, ◌+◌, ◌≤◌, List, length}
use Rattle.set_marks.specs.declared.sight.Sight.{Sight}
use Rattle.set_marks.specs.Divisions.{known_in}
use Rattle.set_marks.specs.Searching.{KnowsTargetsOf}
use Rattle.set_marks.proofs.division.count_known.Given as goal

abbrev pub invariant-sights : goal.invariant-sights
invariant-sights l = record {
  kept : l.known ≡ l.fn.known;
  found : (first : List Sight) → KnowsTargetsOf first l.fn.known
      → l.count + length (known_in first l.left) ≡ length (known_in first l.set);
  few : l.count + length l.left ≤ length l.set;
}

abbrev pub decreases-sights : goal.decreases-sights
decreases-sights l = length l.left
