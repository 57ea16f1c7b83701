-- What a tally stands for: the residuals that were added to it, each with the places of its target
-- and set.
use Rattle.std.specs.Prelude.{◌≡◌, ℕ, List, ℤ, pos, ◌<◌, ◌==◌, length, map, slice_index_or}
use Rattle.adjust_kernel.specs.declared.bounds.TheConstants.{MOST_TARGETS, MOST_SETS}
use Rattle.adjust_kernel.specs.declared.tally.Added.{Added}
use Rattle.adjust_kernel.specs.TurnedObservations.{TurnedObservation}
use Rattle.adjust_kernel.specs.Residuals.{Choice, residual}
use Rattle.adjust_kernel.specs.Sums.{int_sum_where}

-- The sum of the residuals that were added for a target.
abbrev pub added_for_target : List Added → ℕ → ℤ
added_for_target l target = int_sum_where (λ a. a.target == target) (λ a. a.residual) l

-- The sum of the residuals that were added for a set.
abbrev pub added_for_set : List Added → ℕ → ℤ
added_for_set l set = int_sum_where (λ a. a.set == set) (λ a. a.residual) l

-- These are the sums of every target and of every set, and the number of what was added.
pub record AreSumsOf (l : List Added) (targets sets : List ℤ) (taken : ℕ) : Type 0 where
  pub number : length l ≡ taken
  pub of_targets : (t : ℕ) → t < MOST_TARGETS
      → slice_index_or targets t (pos 0) ≡ added_for_target l t
  pub of_sets : (s : ℕ) → s < MOST_SETS
      → slice_index_or sets s (pos 0) ≡ added_for_set l s

-- An observation's residual, with the places of its target and set.
abbrev pub added_of : Choice → TurnedObservation → Added
added_of c r = record { target = r.target; set = r.set; residual = residual c r }

-- The residuals of all observations, as one pass over them adds them.
abbrev pub all_added : Choice → List TurnedObservation → List Added
all_added c observations = map (added_of c) observations
