use Rattle.std.proofs.Common.{◌≡◌, map, take}
use Rattle.std.specs.List.{AllZip}
use Rattle.adjust_kernel.specs.Matching.{key_of_obs}
use Rattle.exact_adjustment.specs.Adjustments.{choice_by}
use Rattle.exact_adjustment.specs.Exact.{observed_by}
use Rattle.station_results.specs.Adjusting.{IsRowOf}
use Rattle.station_results.specs.Residuals.{key_of}
use Rattle.station_results.proofs.adjusted.adjusted_by.Given as goal

-- The rows of the observations so far.
abbrev pub invariant-loop-place : goal.invariant-loop-place
invariant-loop-place l = record {
  keys : map key_of l.rows.items
      ≡ map (key_of_obs l.station.sets l.station.targets) (take l.place l.station.obs);
  each : AllZip (IsRowOf (choice_by l.adjustment))
      (take l.place (observed_by l.station l.adjustment)) l.rows.items;
}
