use Rattle.directions_apart.specs.Arcs.{IsExtent}
use Rattle.station_differences.specs.Angles.{angle_of}
use Rattle.station_differences.proofs.arc.extent_from.Given as goal

abbrev pub invariant-loop-place : goal.invariant-loop-place
invariant-loop-place l = IsExtent l.circle (angle_of l.angles) l.place l.start l.widest
