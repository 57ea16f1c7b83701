-- What the code holds of the zenith angles of a target.
use Rattle.std.specs.Prelude.{◌≡◌, ◌*◌, List, ℕ, length, sum, sum_by}
use Rattle.station_report.specs.declared.zenith_sums.ZenithSums.{ZenithSums}

-- This is how many there are, their sum, and the sum of their squares.
pub record AreSumsOf (zeniths : List ℕ) (z : ZenithSums) : Type 0 where
  pub count : z.count ≡ length zeniths
  pub sum : z.sum ≡ sum zeniths
  pub squares : z.squares ≡ sum_by (λ one. one * one) zeniths
