-- Residuals of directions and orientations against the observations (textbook, scaled by a
-- denominator so that all numbers are whole).
use Rattle.std.specs.Prelude.{ℕ, List, ℤ, pos, ◌+ℤ◌, ◌-ℤ◌, ◌*ℤ◌, ◌==◌, slice_index_or}
use Rattle.adjust_kernel.specs.declared.bounds.TheConstants.{TURN}
use Rattle.adjust_kernel.specs.TurnedObservations.{TurnedObservation}
use Rattle.adjust_kernel.specs.Sums.{int_sum_by, int_sum_where, squared}

-- A direction for each target and an orientation for each set, in half units times one denominator:
-- those of a sheet, or any others.
pub record Choice : Type 0 where
  pub denominator : ℕ
  pub direction : ℕ → ℤ
  pub orientation : ℕ → ℤ

-- The choice that a sheet's lists state.
abbrev pub choice_of : ℕ → List ℤ → List ℤ → Choice
choice_of denominator directions orientations = record {
  denominator = denominator;
  direction = λ t. slice_index_or directions t (pos 0);
  orientation = λ s. slice_index_or orientations s (pos 0);
}

-- An observation with its full turns, in half units.
abbrev pub unrolled : TurnedObservation → ℤ
unrolled r = pos r.value +ℤ pos TURN *ℤ r.turn

-- The scaled residual of an observation: direction less orientation less the denominator times the
-- observation with its turns.
abbrev pub residual : Choice → TurnedObservation → ℤ
residual c r = c.direction r.target -ℤ c.orientation r.set -ℤ pos c.denominator *ℤ unrolled r

-- The sum of the squares of the residuals (textbook), times the square of the denominator.
abbrev pub sum_of_squares : Choice → List TurnedObservation → ℤ
sum_of_squares c observations = int_sum_by (λ r. squared (residual c r)) observations

-- The sum of the residuals of one target.
abbrev pub target_sum : Choice → List TurnedObservation → ℕ → ℤ
target_sum c observations t = int_sum_where (λ r. r.target == t) (residual c) observations

-- The sum of the residuals of one set.
abbrev pub set_sum : Choice → List TurnedObservation → ℕ → ℤ
set_sum c observations s = int_sum_where (λ r. r.set == s) (residual c) observations
