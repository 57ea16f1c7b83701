use Rattle.std.proofs.Common.{◌≡◌, length}
use Rattle.set_marks.specs.Divisions.{alone_among}
use Rattle.set_marks.specs.Searching.{KeepsFaces}
use Rattle.set_marks.proofs.set.alone_kept.Given as goal

abbrev pub invariant-sights : goal.invariant-sights
invariant-sights l = record {
  found : alone_among l.set l.left ≡ alone_among l.set l.set;
  kept : KeepsFaces l.set l.faces;
}

abbrev pub decreases-sights : goal.decreases-sights
decreases-sights l = length l.left
