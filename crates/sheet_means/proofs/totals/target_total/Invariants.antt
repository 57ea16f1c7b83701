use Rattle.std.proofs.Common.{length}
use Rattle.adjust_kernel.specs.Pairs.{turned_by_rows}
use Rattle.adjust_kernel.specs.Residuals.{unrolled}
use Rattle.sheet_means.specs.Totals.{observation_at}
use Rattle.sheet_means.specs.declared.totals.TheConstants.{LARGEST_UNROLLED}
use Rattle.sheet_means.proofs.SumLoops.{IsSumTo}
use Rattle.sheet_means.proofs.totals.target_total.Given as goal

-- The observations of the first sets added.
abbrev pub invariant-loop-set : goal.invariant-loop-set
invariant-loop-set l = IsSumTo (λ s. unrolled (observation_at (turned_by_rows l.station.obs l.rows)
    (length l.station.targets) s l.target)) LARGEST_UNROLLED l.set l.total
