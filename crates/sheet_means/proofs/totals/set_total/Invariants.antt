use Rattle.std.proofs.Common.{length}
use Rattle.adjust_kernel.specs.Pairs.{turned_by_rows}
use Rattle.adjust_kernel.specs.Residuals.{unrolled}
use Rattle.sheet_means.specs.Totals.{observation_at}
use Rattle.sheet_means.specs.declared.totals.TheConstants.{LARGEST_UNROLLED}
use Rattle.sheet_means.proofs.SumLoops.{IsSumTo}
use Rattle.sheet_means.proofs.totals.set_total.Given as goal

-- The observations of the first targets added.
abbrev pub invariant-loop-target : goal.invariant-loop-target
invariant-loop-target l =
    IsSumTo (λ t. unrolled (observation_at (turned_by_rows l.station.obs l.rows)
    (length l.station.targets) l.set t)) LARGEST_UNROLLED l.target l.total
