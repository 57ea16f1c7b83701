use Rattle.std.proofs.Common.{length}
use Rattle.station_differences.specs.Angles.{angle_of}
use Rattle.station_differences.proofs.FirstArcs.{IsFirstSoFar}
use Rattle.station_differences.proofs.arc.best_arc.Given as goal

abbrev pub invariant-loop-place : goal.invariant-loop-place
invariant-loop-place l =
    IsFirstSoFar l.circle (angle_of l.angles) (length l.angles) l.place l.start l.spread
