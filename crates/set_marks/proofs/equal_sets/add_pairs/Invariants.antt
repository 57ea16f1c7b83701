use Rattle.std.proofs.Common.{◌≡◌, ◌+◌, ◌++◌, length}
use Rattle.set_marks.specs.EqualSets.{pairs_with}
use Rattle.set_marks.specs.Sections.{AreLeast, section, sections}
use Rattle.set_marks.proofs.equal_sets.add_pairs.Given as goal

abbrev pub invariant-sets : goal.invariant-sets
invariant-sets l = record {
  found : l.pairs ++ pairs_with l.later (section l.sights l.set) l.number (sections l.sights l.left)
      ≡ l.fn.pairs ++ pairs_with l.later (section l.sights l.set) 1 (sections l.sights l.before);
  least : AreLeast l.sights l.left;
  place : l.number + length l.left ≡ length l.before + 1;
}

abbrev pub decreases-sets : goal.decreases-sets
decreases-sets l = length l.left
