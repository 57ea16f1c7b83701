-- What printed residuals say of a station, in the order of the sentence: the text has a row of
-- titles and a row for each observation, with its direction, its adjusted direction and its
-- residual, least over all directions, orientations and full turns, each rounded once.
use Rattle.std.specs.Prelude.{◌≡◌, ℕ, List}
use Rattle.adjust_kernel.specs.Stations.{StationValue}
use Rattle.station_results.specs.Residuals.{AreAdjusted}
use Rattle.station_residuals.specs.ResidualTexts.{residuals_text}
use Rattle.station_results.specs.declared.adjusted.AdjustedObs.{AdjustedObs}

-- This is the text of the residuals of a station: the titles, and a row for each observation.
pub record IsResidualsText (station : StationValue) (text : List ℕ) : Type 0 where
  pub rows : List AdjustedObs
  pub adjusted : AreAdjusted station rows
  pub text_is : text ≡ residuals_text rows
