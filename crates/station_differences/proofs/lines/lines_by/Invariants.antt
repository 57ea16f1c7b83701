use Rattle.exact_adjustment.specs.Adjustments.{choice_by}
use Rattle.station_differences.proofs.LinesSoFar.{AreLinesSoFar}
use Rattle.station_differences.proofs.lines.lines_by.Given as goal

abbrev pub invariant-loop-place : goal.invariant-loop-place
invariant-loop-place l =
    AreLinesSoFar (choice_by l.adjustment) l.targets l.stated l.differences.items l.place l.taken
    l.lines.items
