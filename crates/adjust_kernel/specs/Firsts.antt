-- The first place at which something is wrong, counted from 0.
use Rattle.std.specs.Prelude.{◌≡◌, ◌≢◌, ℕ, ◌<◌, List, take, slice_get}

-- The lists agree before this place; at it they have different entries, or one of them has ended.
pub record IsFirstDifference {X : Type 0} (xs ys : List X) (n : ℕ) : Type 0 where
  pub before : take n xs ≡ take n ys
  pub differ : slice_get xs n ≢ slice_get ys n

-- The least number below the count of which this holds.
pub record IsFirstWhere (P : ℕ → Type 0) (count n : ℕ) : Type 0 where
  pub inside : n < count
  pub here : P n
  pub before : (m : ℕ) → m < n → P m → ⊥
