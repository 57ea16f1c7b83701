use Rattle.std.proofs.Common.{◌<◌, ◌*◌, ℕ, pos}
use Rattle.std.specs.Prelude.{map, slice_index_or}
use Rattle.std.specs.Int.RustNames.{unsigned_abs}
use Rattle.adjust_kernel.specs.Pairs.{choice_stated_by, turned_by_rows}
use Rattle.adjust_kernel.specs.Residuals.{residual}
use Rattle.adjust_kernel.proofs.residual_limit.first_above_limit.Given as goal

abbrev pub invariant-loop-row : goal.invariant-loop-row
invariant-loop-row l = (k : ℕ) → k < l.row → l.limit * l.sheet.denominator
    < unsigned_abs (slice_index_or (map (residual (choice_stated_by l.sheet))
    (turned_by_rows l.obs l.sheet.rows)) k (pos 0)) → ⊥
