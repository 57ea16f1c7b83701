-- Least squares in a sheet's own names (textbook).
use Rattle.std.specs.Prelude.{ℕ, ◌*◌, ◌≤◌, ◌==◌, List, [], ◌∷◌, ℤ, pos, ◌+ℤ◌, ◌-ℤ◌, ◌*ℤ◌, ◌≤ℤ◌}
use Rattle.std.specs.Prelude.{if◌then◌else◌, ◌≡◌, length, All, Any, unsigned_abs}
use Rattle.std.specs.Str.{bytes_eq}
use Rattle.adjust_kernel.specs.declared.bounds.TheConstants.{TURN}
use Rattle.adjust_kernel.specs.declared.row.Direction.{Direction}
use Rattle.adjust_kernel.specs.declared.row.Orientation.{Orientation}
use Rattle.adjust_kernel.specs.declared.row.Row.{Row}
use Rattle.adjust_kernel.specs.Sheets.{SheetValue}
use Rattle.adjust_kernel.specs.Sums.{int_sum_by, squared}
use Rattle.adjust_kernel.specs.Within.{IsWithin}

-- A direction for the name of each target and an orientation for the number of each set, in half
-- units times one denominator: those of a sheet, or any others.
pub record NamedChoice : Type 0 where
  pub denominator : ℕ
  pub direction : List ℕ → ℤ
  pub orientation : ℕ → ℤ

-- The direction that stands beside a name; 0 where the name doesn't stand.
abbrev pub direction_beside : List Direction → List ℕ → ℤ
direction_beside [] name = pos 0
direction_beside (d ∷ ds) name =
    if bytes_eq d.name name then d.value else direction_beside ds name

-- The orientation that stands beside the number of a set; 0 where the number doesn't stand.
abbrev pub orientation_beside : List Orientation → ℕ → ℤ
orientation_beside [] number = pos 0
orientation_beside (o ∷ os) number =
    if o.set == number then o.value else orientation_beside os number

-- What a sheet states.
abbrev pub stated_in : SheetValue → NamedChoice
stated_in sheet = record {
  denominator = sheet.denominator;
  direction = direction_beside sheet.directions;
  orientation = orientation_beside sheet.orientations;
}

-- The residual of a row, times the denominator: the direction of its target, less the orientation
-- of its set, less what was observed with the full turns that the row adds to it.
abbrev pub residual_of_row : NamedChoice → Row → ℤ
residual_of_row c r =
    c.direction r.target -ℤ c.orientation r.set
    -ℤ pos c.denominator *ℤ (pos r.value +ℤ pos TURN *ℤ r.turn)

-- The sum of the squared residuals of rows, times the square of the denominator.
abbrev pub squares_of_rows : NamedChoice → List Row → ℤ
squares_of_rows c rows = int_sum_by (λ r. squared (residual_of_row c r)) rows

-- The sum of a choice over rows, Q / D^2, is no larger than another's over such rows: said without a
-- division.
abbrev pub IsNoLarger : NamedChoice → List Row → NamedChoice → List Row → Type 0
IsNoLarger c rows other others =
    (pos (other.denominator * other.denominator) *ℤ squares_of_rows c rows)
    ≤ℤ (pos (c.denominator * c.denominator) *ℤ squares_of_rows other others)

-- No other directions and orientations, over any denominator, have a smaller sum.
abbrev pub IsLeastByNames : SheetValue → Type 0
IsLeastByNames sheet =
    (other : NamedChoice) → 1 ≤ other.denominator
    → IsNoLarger (stated_in sheet) sheet.rows other sheet.rows

-- Another choice is the sheet's, turned by one rotation as a whole.
pub record IsTurned (other : NamedChoice) (sheet : SheetValue) : Type 0 where
  pub rotation : ℤ
  pub directions : All (λ d. pos other.denominator *ℤ d.value
      -ℤ pos sheet.denominator *ℤ other.direction d.name ≡ rotation) sheet.directions
  pub orientations : All (λ o. pos other.denominator *ℤ o.value
      -ℤ pos sheet.denominator *ℤ other.orientation o.set ≡ rotation) sheet.orientations

-- Whatever has a sum that is no larger is so.
abbrev pub IsOnlyLeast : SheetValue → Type 0
IsOnlyLeast sheet =
    (other : NamedChoice) → 1 ≤ other.denominator
    → IsNoLarger other sheet.rows (stated_in sheet) sheet.rows → IsTurned other sheet

-- Rows with these full turns, one for each, in place of their own.
abbrev pub rows_turned : List Row → List ℤ → List Row
rows_turned [] turns = []
rows_turned (r ∷ rows) [] = []
rows_turned (r ∷ rows) (k ∷ turns) = record r { turn = k } ∷ rows_turned rows turns

-- No others, over any denominator and with any full turns, have a smaller sum.
abbrev pub IsLeastOverAllTurns : SheetValue → Type 0
IsLeastOverAllTurns sheet =
    (other : NamedChoice) (turns : List ℤ) → length turns ≡ length sheet.rows
    → 1 ≤ other.denominator
    → IsNoLarger (stated_in sheet) sheet.rows other (rows_turned sheet.rows turns)

-- No residual of the sheet, times its denominator, is in size above this.
abbrev pub AreResidualsWithin : ℤ → SheetValue → Type 0
AreResidualsWithin most sheet =
    All (λ r. IsWithin most (residual_of_row (stated_in sheet) r)) sheet.rows

-- One of them is in size just this.
abbrev pub IsSizeOfOne : ℤ → SheetValue → Type 0
IsSizeOfOne size sheet =
    Any (λ r. pos (unsigned_abs (residual_of_row (stated_in sheet) r)) ≡ size) sheet.rows
