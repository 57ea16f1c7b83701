-- Arcs of a circle that hold angles (textbook). Angles are whole numbers, and the circle is a whole
-- number of the same unit.
use Rattle.std.specs.Prelude.{◌≡◌, ℕ, ◌*◌, ◌≤◌, ◌<◌, ℤ, pos, ◌+ℤ◌, ◌*ℤ◌, ◌≤ℤ◌}

-- So far is it from one angle onward to another: less than a circle.
pub record IsWayRound (circle : ℕ) (from to : ℤ) (way : ℕ) : Type 0 where
  pub turns : ℤ
  pub there : from +ℤ pos way ≡ to +ℤ pos circle *ℤ turns
  pub below : way < circle

-- An arc of this width, from some start, holds the first so many angles, but for full circles.
-- Start and width are divided by the parts, so they may be fractions.
pub record IsArc (circle : ℕ) (angle : ℕ → ℤ) (count parts width : ℕ) : Type 0 where
  pub start : ℤ
  pub circles : ℕ → ℤ
  pub low : (i : ℕ) → i < count → start ≤ℤ (pos parts *ℤ (angle i +ℤ pos circle *ℤ circles i))
  pub high : (i : ℕ) → i < count
      → (pos parts *ℤ (angle i +ℤ pos circle *ℤ circles i)) ≤ℤ (start +ℤ pos width)

-- the width of the narrowest arc that holds them: some arc is as wide, and none is narrower
pub record IsSpread (circle : ℕ) (angle : ℕ → ℤ) (count spread : ℕ) : Type 0 where
  pub held : IsArc circle angle count 1 spread
  pub narrowest : (parts width : ℕ) → 1 ≤ parts → IsArc circle angle count parts width
      → parts * spread ≤ width

-- the width of the narrowest arc that begins at one of the angles and holds all
pub record IsExtent (circle : ℕ) (angle : ℕ → ℤ) (count start extent : ℕ) : Type 0 where
  pub held : (i : ℕ) → i < count
      → (way : ℕ) → IsWayRound circle (angle start) (angle i) way → way ≤ extent
  pub narrowest : (width : ℕ)
      → ((i : ℕ) → i < count → (way : ℕ) → IsWayRound circle (angle start) (angle i) way
      → way ≤ width)
      → extent ≤ width
