-- Marks on what has an angle, kept in one list: first the sets, then the targets.
use Rattle.std.specs.Prelude.{◌≡◌, ◌≢◌, ℕ, ◌+◌, ◌<◌, List, Bool, length, pos}
use Rattle.adjust_kernel.specs.Marks.{mark}
use Rattle.adjust_kernel.specs.Residuals.{Choice, residual}
use Rattle.adjust_kernel.specs.TurnedObservations.{TurnedObservation}
use Rattle.adjust_kernel.specs.declared.marks.TheConstants.{MOST_NODES}
use Rattle.adjust_kernel.specs.declared.obs.Obs.{Obs}
use Rattle.exact_adjustment.specs.Nearest.{Reached, after}

-- The marks are those of what has an angle.
pub record AreMarked (sets targets : ℕ) (marks : List Bool) (r : Reached) : Type 0 where
  pub long : length marks ≡ MOST_NODES
  pub of_sets : (s : ℕ) → s < sets → mark marks s ≡ r.of_set s
  pub of_targets : (t : ℕ) → t < targets → mark marks (sets + t) ≡ r.of_target t

-- After a step along an observation the marks are those of what then has an angle.
abbrev pub MarksAlong : (sets targets : ℕ) (old new : List Bool) → Obs → Type 0
MarksAlong sets targets old new o =
    (r : Reached) → AreMarked sets targets old r → AreMarked sets targets new (after o r)

-- If an observation carries, where so many sets stand before the targets among the marks, it agrees
-- exactly with the angles.
abbrev pub AgreesIfItCarries : ℕ → List Bool → Choice → TurnedObservation → Type 0
AgreesIfItCarries sets marks angles o =
    mark marks o.set ≢ mark marks (sets + o.target) → residual angles o ≡ pos 0
