-- What the face differences of a station say of its instrument (textbook): half of 2c is the
-- collimation error and half of 2i the index error, and of each the mean of all observations tells
-- most; the greatest less the least shows how steadily both faces were pointed.
use Rattle.std.specs.Prelude.{◌≡◌, ℕ, zero, suc, ◌*◌, ℤ, pos, ◌+ℤ◌, ◌-ℤ◌, ◌*ℤ◌}
use Rattle.std.specs.Int.{int_div_euclid, int_max, int_min}
use Rattle.station_report.specs.declared.face_means.FaceMean.{FaceMean}

-- the sum of the numbers at the places below a count
abbrev pub sum_below : ℕ → (ℕ → ℤ) → ℤ
sum_below zero number = pos 0
sum_below (suc n) number = sum_below n number +ℤ number n

-- the greatest of them, and of no places the number at the first
abbrev pub greatest_below : ℕ → (ℕ → ℤ) → ℤ
greatest_below zero number = number 0
greatest_below (suc n) number = int_max (greatest_below n number) (number n)

-- the least of them, likewise
abbrev pub least_below : ℕ → (ℕ → ℤ) → ℤ
least_below zero number = number 0
least_below (suc n) number = int_min (least_below n number) (number n)

-- the greatest of them less the least
abbrev pub spread_below : ℕ → (ℕ → ℤ) → ℤ
spread_below n number = greatest_below n number -ℤ least_below n number

-- A sum over a count, rounded to a whole number, the middle of two upwards.
abbrev pub rounded_over : ℤ → ℕ → ℤ
rounded_over sum count = int_div_euclid (pos 2 *ℤ sum +ℤ pos count) (pos (2 * count))

-- the mean of the numbers at the places below a count
abbrev pub mean_below : ℕ → (ℕ → ℤ) → ℤ
mean_below n number = rounded_over (sum_below n number) n

-- half of that mean, rounded once
abbrev pub half_mean_below : ℕ → (ℕ → ℤ) → ℤ
half_mean_below n number = rounded_over (sum_below n number) (2 * n)

-- This is what the numbers at the places below a count say together: their mean, half of it, and the
-- greatest less the least.
pub record IsFaceMean (count : ℕ) (number : ℕ → ℤ) (m : FaceMean) : Type 0 where
  pub mean : m.mean ≡ mean_below count number
  pub half : m.half ≡ half_mean_below count number
  pub spread : m.spread ≡ spread_below count number
