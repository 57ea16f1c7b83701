-- The parts of the sheet of means, as the code makes them one after another.
use Rattle.std.specs.Prelude.{◌≡◌, ℕ, ◌<◌, List, [], All, length, map, slice_index_or}
use Rattle.adjust_kernel.specs.declared.row.Direction.{Direction}
use Rattle.adjust_kernel.specs.declared.row.Orientation.{Orientation}
use Rattle.adjust_kernel.specs.declared.row.Row.{Row}
use Rattle.adjust_kernel.specs.Matching.{key_of_row, observed}
use Rattle.adjust_kernel.specs.Pairs.{turned_by_rows}
use Rattle.adjust_kernel.specs.TurnedObservations.{TurnedObservation}
use Rattle.adjust_kernel.specs.Sheets.{IsRow}
use Rattle.adjust_kernel.specs.Stations.{StationValue}
use Rattle.adjust_kernel.specs.Within.{IsWithin}
use Rattle.sheet_means.specs.declared.adjusted.TheConstants.{LARGEST_MEAN}
use Rattle.sheet_means.specs.declared.turn.TheConstants.{MOST_TURNS}
use Rattle.sheet_means.specs.Means.{mean_direction, mean_orientation}
use Rattle.sheet_means.specs.Turning.{IsTurned}

-- a row of the sheet of means: a row of a sheet, with few full turns
pub record IsMeansRow (r : Row) : Type 0 where
  pub row : IsRow r
  pub turn : IsWithin MOST_TURNS r.turn

-- The rows of the sheet of means: those of the station's observations in their order, with the full
-- turns of each
pub record AreMeansRows (station : StationValue) (rows : List Row) : Type 0 where
  pub keys : map key_of_row rows ≡ observed station
  pub turned : All (IsTurned station.obs) (turned_by_rows station.obs rows)
  pub each : All IsMeansRow rows

-- the list has so many elements, and the one at each place has the property at that place
pub record AreEach {X : Type 0} (P : ℕ → X → Type 0) (count : ℕ) (xs : List X) : Type 0 where
  pub long : length xs ≡ count
  pub at : (k : ℕ) (d : X) → k < count → P k (slice_index_or xs k d)

-- The direction of the target at this place: its name, and the mean of its observations less the
-- first target's
pub record IsMeansDirection (station : StationValue) (observations : List TurnedObservation) (t : ℕ)
    (d : Direction) : Type 0 where
  pub name : d.name ≡ slice_index_or station.targets t []
  pub value : d.value ≡ mean_direction (length station.targets) observations t
  pub bound : IsWithin LARGEST_MEAN d.value

-- The orientation of the set at this place: its number, and the mean over the targets of direction
-- less observation.
pub record IsMeansOrientation (station : StationValue) (observations : List TurnedObservation)
    (s : ℕ)
    (o : Orientation) : Type 0 where
  pub set : o.set ≡ slice_index_or station.sets s 0
  pub value : o.value
      ≡ mean_orientation (length station.sets) (length station.targets) observations s
  pub bound : IsWithin LARGEST_MEAN o.value
