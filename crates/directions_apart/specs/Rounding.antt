-- Directions rounded to steps, as tables print them (profile): both are whole numbers of
-- 0.000000001 gon.
use Rattle.std.specs.Prelude.{◌≡◌, ℕ, ◌*◌, ◌%◌, ◌<◌, ℤ, pos, neg_ℤ, ◌+ℤ◌, ◌-ℤ◌, ◌*ℤ◌, ◌≤ℤ◌, ◌<ℤ◌}
use Rattle.adjust_kernel.specs.Residuals.{Choice}
use Rattle.adjust_kernel.specs.declared.units.TheConstants.{CIRCLE, HALF_UNIT}

-- twice what a rounded direction is more than a choice's, with so many full circles: in 0.000000001
-- gon times the denominator
abbrev pub twice_more_than_direction : Choice → ℕ → ℕ → ℤ → ℤ
twice_more_than_direction c t rounded circles =
    pos 2 *ℤ ((pos c.denominator *ℤ pos rounded -ℤ pos HALF_UNIT *ℤ c.direction t)
    +ℤ pos (c.denominator * CIRCLE) *ℤ circles)

-- A direction rounded to whole steps, from 0 and below a full circle: but for full circles it is
-- the choice's direction within half a step, and what lies in the middle of two is rounded up.
pub record IsRounded (c : Choice) (t step rounded : ℕ) : Type 0 where
  pub whole : rounded % step ≡ 0
  pub below : rounded < CIRCLE
  pub circles : ℤ
  pub low : neg_ℤ (pos (step * c.denominator)) <ℤ twice_more_than_direction c t rounded circles
  pub high : twice_more_than_direction c t rounded circles ≤ℤ pos (step * c.denominator)

-- a choice with its directions counted from that of the first target
abbrev pub from_first : Choice → Choice
from_first c = record c { direction = λ t. c.direction t -ℤ c.direction 0 }
