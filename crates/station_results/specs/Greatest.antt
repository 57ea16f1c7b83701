-- The greatest residual of a station, as it is printed: rounded to 0.001 mgon.
use Rattle.std.specs.Prelude.{◌≡◌, ℕ, ◌≤◌, ◌<◌, List, length, map, ℤ, pos, slice_index_or}
use Rattle.std.specs.Prelude.{unsigned_abs}
use Rattle.adjust_kernel.specs.Stations.{StationValue}
use Rattle.station_results.specs.Residuals.{AreAdjusted}
use Rattle.station_results.specs.declared.adjusted.AdjustedObs.{AdjustedObs}

-- the residual of the observation at a place
abbrev pub residual_at : List AdjustedObs → ℕ → ℤ
residual_at rows place =
    slice_index_or (map (λ (row : AdjustedObs). row.residual) rows) place (pos 0)

-- Of the residuals before a place, the one at this place is the greatest in size, as it is printed:
-- the first of them where several are.
pub record IsGreatestBefore (rows : List AdjustedObs) (end place : ℕ) : Type 0 where
  pub inside : place < end
  pub most : (m : ℕ) → m < end
      → unsigned_abs (residual_at rows m) ≤ unsigned_abs (residual_at rows place)
  pub first : (m : ℕ) → m < place
      → unsigned_abs (residual_at rows m) < unsigned_abs (residual_at rows place)

-- Of all residuals.
abbrev pub IsGreatest : List AdjustedObs → ℕ → Type 0
IsGreatest rows place = IsGreatestBefore rows (length rows) place

-- The greatest residual of a station has this size, in units of 0.001 mgon.
pub record IsGreatestSize (station : StationValue) (size : ℕ) : Type 0 where
  -- These are its observations, adjusted by least squares.
  pub rows : List AdjustedObs
  pub adjusted : AreAdjusted station rows
  -- At this place is the greatest residual, which has this size.
  pub place : ℕ
  pub greatest : IsGreatest rows place
  pub size_is : size ≡ unsigned_abs (residual_at rows place)
