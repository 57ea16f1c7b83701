use Rattle.std.proofs.Common.{pos}
use Rattle.std.proofs.Math.IntN.{◌*ℤ◌, ◌-ℤ◌}
use Rattle.adjust_kernel.specs.declared.bounds.TheConstants.{MOST_SETS}
use Rattle.adjust_kernel.specs.Pairs.{turned_by_rows}
use Rattle.sheet_means.specs.Parts.{AreEach, IsMeansDirection}
use Rattle.sheet_means.specs.Totals.{target_total}
use Rattle.sheet_means.specs.declared.totals.TheConstants.{LARGEST_UNROLLED}
use Rattle.sheet_means.proofs.SumLoops.{IsSumTo}
use Rattle.sheet_means.proofs.adjusted.directions_of.Given as goal

-- The directions of the first targets, and their observations less the first target's.
abbrev pub invariant-loop-target : goal.invariant-loop-target
invariant-loop-target l =
    let observations = turned_by_rows l.station.obs l.rows in
    record {
      each : AreEach (IsMeansDirection l.station observations) l.target l.directions.items;
      sum : IsSumTo (λ t. target_total observations t -ℤ target_total observations 0)
          (LARGEST_UNROLLED *ℤ pos 2 *ℤ pos MOST_SETS) l.target l.rest;
    }
