use Rattle.std.proofs.Common.{◌≡◌, ◌≤◌, ◌+◌, ◌++◌, length, All}
use Rattle.set_marks.specs.Marks.{IsRoomy}
use Rattle.set_marks.specs.Marking.{set_marks}
use Rattle.set_marks.proofs.marking.put_sets.Given as goal

abbrev pub invariant-sets : goal.invariant-sets
invariant-sets l = record {
  room : All IsRoomy l.marks.items;
  put : l.marks.items ++ set_marks l.number l.left l.sights
      ≡ l.fn.marks.items ++ set_marks 1 l.starts l.sights;
  few : l.number + length l.left ≤ 41;
}

abbrev pub decreases-sets : goal.decreases-sets
decreases-sets l = length l.left
