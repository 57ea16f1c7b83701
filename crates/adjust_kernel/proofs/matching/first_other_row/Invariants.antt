use Rattle.std.proofs.Common.{◌≡◌, ◌<◌, ℕ}
use Rattle.std.specs.List.{slice_get}
use Rattle.adjust_kernel.specs.Matching.{keys_of, observed}
use Rattle.adjust_kernel.proofs.matching.first_other_row.Given as goal

-- Sheet and station agree at the first places.
abbrev pub invariant-loop-place : goal.invariant-loop-place
invariant-loop-place l = (k : ℕ) → k < l.place
    → slice_get (keys_of l.sheet) k ≡ slice_get (observed l.station) k
