-- Sheets: what an adjustment answered for a station, as contracts see it, and the limits that it
-- keeps.
use Rattle.std.specs.Prelude.{ℕ, List, ◌≤◌, ◌<◌, length, All}
use Rattle.adjust_kernel.specs.declared.bounds.TheConstants.{LARGEST_ANGLE, LARGEST_DENOMINATOR}
use Rattle.adjust_kernel.specs.declared.bounds.TheConstants.{LARGEST_SET_NUMBER, LARGEST_TURN}
use Rattle.adjust_kernel.specs.declared.bounds.TheConstants.{MOST_ROWS, MOST_SETS, MOST_TARGETS}
use Rattle.adjust_kernel.specs.declared.bounds.TheConstants.{TURN}
use Rattle.adjust_kernel.specs.declared.row.Direction.{Direction}
use Rattle.adjust_kernel.specs.declared.row.Orientation.{Orientation}
use Rattle.adjust_kernel.specs.declared.row.Row.{Row}
use Rattle.adjust_kernel.specs.Names.{IsName}
use Rattle.adjust_kernel.specs.Within.{IsWithin}

-- A sheet as contracts see it: the station's name, the denominator, and the three lists.
pub record SheetValue : Type 0 where
  pub name : List ℕ
  pub denominator : ℕ
  pub directions : List Direction
  pub orientations : List Orientation
  pub rows : List Row

-- The sheet with these parts.
abbrev pub sheet_of : List ℕ → ℕ → List Direction → List Orientation → List Row → SheetValue
sheet_of name denominator directions orientations rows = record {
  name = name;
  denominator = denominator;
  directions = directions;
  orientations = orientations;
  rows = rows;
}

-- A number that a set may have.
abbrev pub IsSetNumber : ℕ → Type 0
IsSetNumber number = (1 ≤ number) × (number ≤ LARGEST_SET_NUMBER)

-- A direction within the limits: of a named target, and not too large.
pub record IsDirection (d : Direction) : Type 0 where
  pub name : IsName d.name
  pub value : IsWithin LARGEST_ANGLE d.value

-- An orientation within the limits: of a set with a number, and not too large.
pub record IsOrientation (o : Orientation) : Type 0 where
  pub set : IsSetNumber o.set
  pub value : IsWithin LARGEST_ANGLE o.value

-- A row within the limits: of a set with a number and a named target, on the circle, and with few
-- full turns.
pub record IsRow (r : Row) : Type 0 where
  pub set : IsSetNumber r.set
  pub target : IsName r.target
  pub value : r.value < TURN
  pub turn : IsWithin LARGEST_TURN r.turn

-- The directions of a sheet (profile): some, not too many, each within the limits.
pub record AreDirections (directions : List Direction) : Type 0 where
  pub some : 1 ≤ length directions
  pub few : length directions ≤ MOST_TARGETS
  pub each : All IsDirection directions

-- The orientations of a sheet (profile): some, not too many, each within the limits.
pub record AreOrientations (orientations : List Orientation) : Type 0 where
  pub some : 1 ≤ length orientations
  pub few : length orientations ≤ MOST_SETS
  pub each : All IsOrientation orientations

-- The rows of a sheet (profile): some, not too many, each within the limits.
pub record AreRows (rows : List Row) : Type 0 where
  pub some : 1 ≤ length rows
  pub few : length rows ≤ MOST_ROWS
  pub each : All IsRow rows

-- What directions and orientations may be divided by (profile).
abbrev pub IsDenominator : ℕ → Type 0
IsDenominator d = (1 ≤ d) × (d ≤ LARGEST_DENOMINATOR)

-- A sheet within the limits. Names and set numbers may repeat here; no station has such lists.
pub record IsSheet (s : SheetValue) : Type 0 where
  pub name : IsName s.name
  pub denominator : IsDenominator s.denominator
  pub directions : AreDirections s.directions
  pub orientations : AreOrientations s.orientations
  pub rows : AreRows s.rows
