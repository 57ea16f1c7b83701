-- A row of an observation, by one adjustment of its station.
use Rattle.std.specs.Prelude.{◌≡◌}
use Rattle.adjust_kernel.specs.Residuals.{Choice}
use Rattle.adjust_kernel.specs.TurnedObservations.{TurnedObservation}
use Rattle.station_results.specs.Residuals.{AddsUp, IsRoundedResidual}
use Rattle.station_results.specs.declared.adjusted.AdjustedObs.{AdjustedObs}

-- The row has the observation's two-face direction and its residual, rounded, and adds up.
pub record IsRowOf (c : Choice) (o : TurnedObservation) (row : AdjustedObs) : Type 0 where
  pub value : row.value ≡ o.value
  pub residual : IsRoundedResidual c o row.residual
  pub adds_up : AddsUp row
