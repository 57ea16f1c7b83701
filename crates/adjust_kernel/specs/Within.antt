-- Numbers of a bounded size.
use Rattle.std.specs.Prelude.{ℤ, neg_ℤ, ◌≤ℤ◌}

-- The size of z is at most this.
pub record IsWithin (most : ℤ) (z : ℤ) : Type 0 where
  pub low : neg_ℤ most ≤ℤ z
  pub high : z ≤ℤ most
