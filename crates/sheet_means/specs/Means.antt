-- The sheet of means of a complete station (textbook): each direction is the mean over the sets of
-- the target's observations, less that of the first target, and each orientation the mean over the
-- targets of direction less observation; all times sets times targets.
use Rattle.std.specs.Prelude.{◌≡◌, ◌⊎◌, ℕ, ◌*◌, ◌<◌, ◌≤◌, List, All, length, ℤ, pos, ◌*ℤ◌, ◌-ℤ◌}
use Rattle.adjust_kernel.specs.declared.bounds.TheConstants.{MOST_ROWS}
use Rattle.adjust_kernel.specs.Matching.{Matches}
use Rattle.adjust_kernel.specs.Pairs.{choice_stated_by, turned_by_rows}
use Rattle.adjust_kernel.specs.TurnedObservations.{TurnedObservation}
use Rattle.adjust_kernel.specs.Residuals.{Choice}
use Rattle.adjust_kernel.specs.Sheets.{SheetValue}
use Rattle.adjust_kernel.specs.Stations.{StationValue}
use Rattle.adjust_kernel.specs.Within.{IsWithin}
use Rattle.sheet_means.specs.declared.adjusted.TheConstants.{LARGEST_MEAN}
use Rattle.sheet_means.specs.declared.turn.TheConstants.{MOST_TURNS}
use Rattle.sheet_means.specs.Totals.{target_total, set_total, whole_total}
use Rattle.sheet_means.specs.Turning.{IsTurned}

-- the direction of a target, times sets times targets: the mean of its observations over the sets,
-- less that of the first target
abbrev pub mean_direction : ℕ → List TurnedObservation → ℕ → ℤ
mean_direction targets observations t =
    pos targets *ℤ (target_total observations t -ℤ target_total observations 0)

-- the orientation of a set, times sets times targets: the mean over the targets of direction less
-- observation
abbrev pub mean_orientation : ℕ → ℕ → List TurnedObservation → ℕ → ℤ
mean_orientation sets targets observations s =
    whole_total observations -ℤ pos sets *ℤ set_total observations s
    -ℤ pos targets *ℤ target_total observations 0

-- the directions and orientations are the means of these observations, over sets times targets
pub record AreMeans (sets targets : ℕ) (observations : List TurnedObservation)
    (c : Choice) : Type 0 where
  pub denominator : c.denominator ≡ sets * targets
  pub directions : (t : ℕ) → t < targets → c.direction t ≡ mean_direction targets observations t
  pub orientations : (s : ℕ) → s < sets
      → c.orientation s ≡ mean_orientation sets targets observations s

-- The sheet of means: of this station, with its targets, sets and observations in their order, the
-- full turns of each observation, and the means.
pub record IsMeansSheet (station : StationValue) (sheet : SheetValue) : Type 0 where
  pub matches : Matches station sheet
  pub turned : All (IsTurned station.obs) (turned_by_rows station.obs sheet.rows)
  pub means : AreMeans (length station.sets) (length station.targets)
      (turned_by_rows station.obs sheet.rows) (choice_stated_by sheet)

-- The numbers of the sheet are small: they are well within the ranges of the first version of
-- sheets, and no observation has more than two full turns.
pub record HasSmallNumbers (sheet : SheetValue) : Type 0 where
  pub denominator : sheet.denominator ≤ MOST_ROWS
  pub directions : All (λ d. IsWithin LARGEST_MEAN d.value) sheet.directions
  pub orientations : All (λ o. IsWithin LARGEST_MEAN o.value) sheet.orientations
  pub turns : All (λ r. IsWithin MOST_TURNS r.turn) sheet.rows

-- no observation of the first set or of the first target has full turns
abbrev pub IsUnturnedAtFirst : StationValue → SheetValue → Type 0
IsUnturnedAtFirst station sheet =
    All (λ r. (r.set ≡ 0) ⊎ (r.target ≡ 0) → r.turn ≡ pos 0) (turned_by_rows station.obs sheet.rows)
