use Rattle.std.proofs.Common.{◌≡◌, ◌+◌, ◌++◌, length}
use Rattle.set_marks.specs.Divisions.{parts_at}
use Rattle.set_marks.specs.EqualSets.{pairs_from, equal_sets}
use Rattle.set_marks.specs.Sections.{AreLeast, sections}
use Rattle.set_marks.proofs.equal_sets.equal_sets.Given as goal

abbrev pub invariant-sets : goal.invariant-sets
invariant-sets l = record {
  found : l.pairs ++ pairs_from (length l.before.items + 1) (sections l.in_sets l.before.items)
      (parts_at (length l.in_sets) l.left l.in_sets) ≡ equal_sets l.starts l.in_sets;
  least : AreLeast l.in_sets l.before.items;
  place : length l.before.items + length l.left ≡ length l.starts;
}

abbrev pub decreases-sets : goal.decreases-sets
decreases-sets l = length l.left
