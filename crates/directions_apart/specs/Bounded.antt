-- How wide an arc is, if it is narrower than a bound.
use Rattle.std.specs.Prelude.{ℕ, ◌≤◌, ◌<◌, ℤ}
use Rattle.directions_apart.specs.Arcs.{IsExtent, IsWayRound}

-- No arc that begins at one of the angles and holds all is narrower than this.
abbrev pub IsNoWider : (circle : ℕ) (angle : ℕ → ℤ) (count start narrowest : ℕ) → Type 0
IsNoWider circle angle count start narrowest = (width : ℕ)
    → ((i : ℕ) → i < count → (way : ℕ) → IsWayRound circle (angle start) (angle i) way
    → way ≤ width)
    → narrowest ≤ width

-- The width of the narrowest of them, if that is below a bound; else any width from the bound on.
pub record IsExtentBelow (circle : ℕ) (angle : ℕ → ℤ) (count start bound extent : ℕ)
    : Type 0 where
  pub exact : extent < bound → IsExtent circle angle count start extent
  pub wide : bound ≤ extent → IsNoWider circle angle count start bound
