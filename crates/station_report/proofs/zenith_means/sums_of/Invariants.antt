use Rattle.std.proofs.Common.{◌≤◌}
use Rattle.station_report.specs.Columns.{each_place}
use Rattle.station_report.specs.ZenithSums.{AreSumsOf}
use Rattle.station_report.specs.Zeniths.{zenith_of}
use Rattle.station_report.proofs.zenith_means.sums_of.Given as goal

-- The sums are those of the observations before this place.
abbrev pub invariant-loop-place : goal.invariant-loop-place
invariant-loop-place l = record {
  sums : AreSumsOf (each_place l.place (zenith_of l.fn.surveyed l.fn.target)) l.sums;
  few : l.sums.count ≤ l.place;
}
