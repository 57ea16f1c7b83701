use Rattle.std.proofs.Common.{◌≡◌, length}
use Rattle.set_marks.specs.Divisions.{parts_at, cut_end}
use Rattle.set_marks.specs.Doubts.{stranger_among}
use Rattle.set_marks.proofs.division.all_repeat.Given as goal

abbrev pub invariant-sets : goal.invariant-sets
invariant-sets l = stranger_among l.first (parts_at (cut_end l.starts l.sights) l.left l.sights)
    ≡ stranger_among l.first (parts_at (cut_end l.starts l.sights) l.starts l.sights)

abbrev pub decreases-sets : goal.decreases-sets
decreases-sets l = length l.left
