use Rattle.std.proofs.Common.{◌≡◌, ◌+◌, ◌≤◌, List, length}
use Rattle.set_marks.specs.declared.sight.Sight.{Sight}
use Rattle.set_marks.specs.Divisions.{place_of}
use Rattle.set_marks.specs.Searching.{KnowsTargetsOf}
use Rattle.set_marks.proofs.details.place_of.Given as goal

abbrev pub invariant-sights : goal.invariant-sights
invariant-sights l = record {
  kept : l.known ≡ l.fn.known;
  found : (others : List Sight) → KnowsTargetsOf others l.fn.known
      → l.at + place_of others l.before l.left ≡ place_of others l.count l.sights;
  few : l.at + length l.left ≤ length l.sights;
}

abbrev pub decreases-sights : goal.decreases-sights
decreases-sights l = length l.left
