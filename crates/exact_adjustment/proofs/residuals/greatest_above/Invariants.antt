use Rattle.std.proofs.Common.{◌≡◌, ◌≤◌, ◌<◌, ℕ}
use Rattle.exact_adjustment.specs.Exact.{size_at}
use Rattle.exact_adjustment.proofs.residuals.greatest_above.Given as goal

abbrev pub invariant-loop-place : goal.invariant-loop-place
invariant-loop-place l = record {
  most : (k : ℕ) → k < l.place → size_at l.station l.adjustment k ≤ l.greatest;
  first : (k : ℕ) → k < l.at → size_at l.station l.adjustment k < l.greatest;
  is : 0 < l.greatest → (l.at < l.place) × (l.greatest ≡ size_at l.station l.adjustment l.at);
}
