use Rattle.std.proofs.Common.{◌≡◌, ◌≤◌, length}
use Rattle.adjust_kernel.specs.declared.bounds.TheConstants.{MOST_SETS}
use Rattle.set_marks.specs.Divisions.{sets_flaw, cut_end}
use Rattle.set_marks.proofs.division.sets_flaw.Given as goal

abbrev pub invariant-sets : goal.invariant-sets
invariant-sets l = record {
  found : sets_flaw l.first l.count (cut_end l.starts l.sights) l.left l.sights
      ≡ sets_flaw l.first 0 (cut_end l.starts l.sights) l.starts l.sights;
  few : l.count ≤ MOST_SETS;
}

abbrev pub decreases-sets : goal.decreases-sets
decreases-sets l = length l.left
