-- Sums of observations with their full turns, over all sets, over all targets, and over all.
use Rattle.std.specs.Prelude.{ℕ, ◌+◌, ◌*◌, List, ℤ, pos, ◌==◌, slice_index_or}
use Rattle.adjust_kernel.specs.Sums.{int_sum_by, int_sum_where}
use Rattle.adjust_kernel.specs.TurnedObservations.{TurnedObservation}
use Rattle.adjust_kernel.specs.Residuals.{unrolled}

-- the observations of one target, added over all sets
abbrev pub target_total : List TurnedObservation → ℕ → ℤ
target_total observations t = int_sum_where (λ r. r.target == t) unrolled observations

-- the observations of one set, added over all targets
abbrev pub set_total : List TurnedObservation → ℕ → ℤ
set_total observations s = int_sum_where (λ r. r.set == s) unrolled observations

-- all observations added
abbrev pub whole_total : List TurnedObservation → ℤ
whole_total observations = int_sum_by unrolled observations

-- the observation of a set and a target, where the observations stand set by set and within a set
-- target by target
abbrev pub observation_at : List TurnedObservation → ℕ → ℕ → ℕ → TurnedObservation
observation_at observations targets s t =
    slice_index_or observations (s * targets + t)
    (record { set = 0; target = 0; value = 0; turn = pos 0 })
