-- How far stated directions are apart from those of a choice (profile). Stated directions are whole
-- numbers of parts, 81 of which are 0.000000001 gon; a choice's are half units over its
-- denominator.
use Rattle.std.specs.Prelude.{ℕ, ◌+◌, ◌*◌, ◌≤◌, ◌<◌, List, ℤ, pos, ◌+ℤ◌, ◌-ℤ◌, ◌*ℤ◌, slice_index_or}
use Rattle.adjust_kernel.specs.Residuals.{Choice}
use Rattle.adjust_kernel.specs.Within.{IsWithin}
use Rattle.directions_apart.specs.Arcs.{IsSpread}
use Rattle.adjust_kernel.specs.declared.units.TheConstants.{CIRCLE, HALF_UNIT, PARTS, UNIT}

-- the direction that a list states for a target
abbrev pub stated_by : List ℤ → ℕ → ℤ
stated_by stated t = slice_index_or stated t (pos 0)

-- the stated direction of a target less the choice's, in parts times the denominator
abbrev pub difference : Choice → (ℕ → ℤ) → ℕ → ℤ
difference c stated t = pos c.denominator *ℤ stated t -ℤ pos (PARTS * HALF_UNIT) *ℤ c.direction t

-- a full circle in the same unit
abbrev pub circle_of : Choice → ℕ
circle_of c = c.denominator * (PARTS * CIRCLE)

-- One rotation, over any denominator, and full circles bring each stated direction so near the
-- choice's: within so many halves of a part.
pub record AreBroughtNear (targets : ℕ) (c : Choice) (stated : ℕ → ℤ) (most : ℕ) : Type 0 where
  pub parts : ℕ
  pub positive : 1 ≤ parts
  pub rotation : ℤ
  pub circles : ℕ → ℤ
  pub each : (t : ℕ) → t < targets
      → IsWithin (pos (most * (c.denominator * parts)))
      (pos 2
      *ℤ (pos parts *ℤ (difference c stated t +ℤ pos (circle_of c) *ℤ circles t) -ℤ rotation))

-- One rotation brings each stated direction within so many units of 0.000001 gon of the choice's,
-- and with it each number that is off from it by so many parts at most: they count on top of how
-- near the direction is, which is in halves of a part.
pub record AreBroughtWithin (targets : ℕ) (c : Choice) (stated : ℕ → ℤ) (off most : ℕ)
    : Type 0 where
  pub near : ℕ
  pub brought : AreBroughtNear targets c stated near
  pub counted : near + 2 * off ≤ 2 * (PARTS * UNIT) * most

-- So far apart, in units of 0.000001 gon, are stated directions, and the numbers that are off from
-- them by so many parts at most, from a choice's: one rotation brings each within that, and none
-- brings them all nearer by a unit or more.
pub record IsApart (targets : ℕ) (c : Choice) (stated : ℕ → ℤ) (off apart : ℕ) : Type 0 where
  pub brought : AreBroughtWithin targets c stated off apart
  pub no_nearer : (nearer : ℕ) → nearer < apart → ¬ AreBroughtWithin targets c stated off nearer

-- One rotation and full circles bring each number within so many units of 0.000001 gon of the
-- choice's direction. Numbers are fractions of parts, over one denominator for all.
pub record AreNumbersWithin (targets : ℕ) (c : Choice) (parts : ℕ) (number : ℕ → ℤ) (most : ℕ)
    : Type 0 where
  pub over : ℕ
  pub positive : 1 ≤ over
  pub rotation : ℤ
  pub circles : ℕ → ℤ
  pub each : (t : ℕ) → t < targets
      → IsWithin (pos (PARTS * UNIT * most * (c.denominator * (parts * over))))
      (pos over *ℤ (pos c.denominator *ℤ number t
      -ℤ pos parts *ℤ (pos (PARTS * HALF_UNIT) *ℤ c.direction t)
      +ℤ pos (circle_of c) *ℤ (pos parts *ℤ circles t)) -ℤ rotation)

-- the least whole number that is not below a fraction
pub record IsRoundedUp (numerator denominator whole : ℕ) : Type 0 where
  pub not_below : numerator ≤ whole * denominator
  pub least : whole * denominator < numerator + denominator

-- Half the spread of the differences on the circle, and what numbers are off, rounded up to whole
-- units of 0.000001 gon.
pub record IsHalfSpread (targets : ℕ) (c : Choice) (stated : ℕ → ℤ) (off apart : ℕ) : Type 0 where
  pub spread : ℕ
  pub is_spread : IsSpread (circle_of c) (difference c stated) targets spread
  pub rounded_up : IsRoundedUp (spread + c.denominator * (2 * off))
      (2 * (PARTS * UNIT) * c.denominator) apart
