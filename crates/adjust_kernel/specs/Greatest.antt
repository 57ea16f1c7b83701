-- The greatest residual of a sheet, in size.
use Rattle.std.specs.Prelude.{◌≡◌, List, ℤ, pos, All, Any}
use Rattle.std.specs.Int.RustNames.{unsigned_abs}
use Rattle.adjust_kernel.specs.TurnedObservations.{TurnedObservation}
use Rattle.adjust_kernel.specs.Residuals.{Choice, residual}
use Rattle.adjust_kernel.specs.Within.{IsWithin}

-- No residual is larger in size than this, and that of some observation is as large.
pub record IsGreatest (c : Choice) (observations : List TurnedObservation) (size : ℤ) : Type 0 where
  pub bound : All (λ r. IsWithin size (residual c r)) observations
  pub reached : Any (λ r. pos (unsigned_abs (residual c r)) ≡ size) observations
