-- What the code holds of numbers at the places below a count.
use Rattle.std.specs.Prelude.{◌≡◌, ℕ, ◌*◌, ◌^◌, ℤ, pos}
use Rattle.adjust_kernel.specs.Within.{IsWithin}
use Rattle.station_report.specs.FaceMeans.{greatest_below, least_below, sum_below}
use Rattle.station_report.specs.declared.together.Together.{Together}

-- This is their sum, their least and their greatest.
pub record AreTogether (count : ℕ) (number : ℕ → ℤ) (t : Together) : Type 0 where
  pub sum : t.sum ≡ sum_below count number
  pub least : t.least ≡ least_below count number
  pub greatest : t.greatest ≡ greatest_below count number
  pub bound : IsWithin (pos (2 ^ 31 * count)) t.sum
