use Rattle.std.proofs.Common.{◌≡◌, length}
use Rattle.set_marks.specs.Divisions.{parts_at, cut_end}
use Rattle.set_marks.specs.Doubts.{stranger_among}
use Rattle.set_marks.specs.Searching.{KnowsTargetsOf}
use Rattle.set_marks.proofs.division.strangers_flaw.Given as goal

abbrev pub invariant-sets : goal.invariant-sets
invariant-sets l = record {
  found : stranger_among l.first (parts_at (cut_end l.starts l.sights) l.left l.sights)
      ≡ stranger_among l.first (parts_at (cut_end l.starts l.sights) l.starts l.sights);
  known : KnowsTargetsOf l.first l.known;
}

abbrev pub decreases-sets : goal.decreases-sets
decreases-sets l = length l.left
