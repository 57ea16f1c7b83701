use Rattle.std.proofs.Common.{◌≡◌, ◌++◌, length, map}
use Rattle.set_marks.specs.Placing.{placed_at, marks_of_block, marks_after}
use Rattle.set_marks.proofs.placing.place_block.Given as goal

abbrev pub invariant-marks : goal.invariant-marks
invariant-marks l = record {
  value : l.placed.items ++ map (placed_at l.bytes l.at) (marks_of_block l.block l.left)
      ≡ l.fn.placed.items ++ map (placed_at l.bytes l.at) (marks_of_block l.block l.marks);
  rest : marks_after l.block l.left ≡ marks_after l.block l.marks;
}

abbrev pub decreases-marks : goal.decreases-marks
decreases-marks l = length l.left
