use Rattle.std.proofs.Common.{◌≡◌, ◌++◌, List, length}
use Rattle.set_marks.specs.declared.sight.Sight.{Sight}
use Rattle.set_marks.specs.Divisions.{known_in}
use Rattle.set_marks.specs.Searching.{KnowsTargetsOf}
use Rattle.set_marks.proofs.details.known_in.Given as goal

abbrev pub invariant-sights : goal.invariant-sights
invariant-sights l = record {
  kept : l.known ≡ l.fn.known;
  found : (others : List Sight) → KnowsTargetsOf others l.fn.known
      → l.found.items ++ known_in others l.left ≡ known_in others l.sights;
}

abbrev pub decreases-sights : goal.decreases-sights
decreases-sights l = length l.left
