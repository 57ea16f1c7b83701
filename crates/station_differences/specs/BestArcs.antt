-- The narrowest arc of the circle that holds angles, and where it begins (profile). A rotation that
-- brings its middle to 0 makes the largest of the angles smallest in size.
use Rattle.std.specs.Prelude.{ℕ, ℤ}
use Rattle.adjust_kernel.specs.Firsts.{IsFirstWhere}
use Rattle.directions_apart.specs.Arcs.{IsExtent, IsSpread}

-- The narrowest arc that holds the first so many angles is so wide, and begins at this one; where
-- several arcs are as narrow, at no angle before it.
pub record IsBestArc (circle : ℕ) (angle : ℕ → ℤ) (count start spread : ℕ) : Type 0 where
  pub is_spread : IsSpread circle angle count spread
  pub first : IsFirstWhere (λ i. IsExtent circle angle count i spread) count start
