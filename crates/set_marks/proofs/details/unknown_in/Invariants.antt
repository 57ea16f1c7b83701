use Rattle.std.proofs.Common.{◌≡◌, List, length}
use Rattle.set_marks.specs.declared.sight.Sight.{Sight}
use Rattle.set_marks.specs.Divisions.{unknown_in}
use Rattle.set_marks.specs.Searching.{KnowsTargetsOf}
use Rattle.set_marks.proofs.details.unknown_in.Given as goal

abbrev pub invariant-sights : goal.invariant-sights
invariant-sights l = record {
  kept : l.known ≡ l.fn.known;
  found : (others : List Sight) → KnowsTargetsOf others l.fn.known
      → unknown_in others l.left ≡ unknown_in others l.sights;
}

abbrev pub decreases-sights : goal.decreases-sights
decreases-sights l = length l.left
