-- The full turns that are nearest to what is carried are one but for whole turns of targets and
-- sets, and so the exact adjustments with them have the same residuals.
use Rattle.std.proofs.Common.{◌≡◌, ℕ, ◌*◌, ◌≤◌, ◌<◌, length, ℤ, pos, arith, ap, sym, ◌∙◌}
use Rattle.std.proofs.Math.IntN.{◌*ℤ◌, ◌-ℤ◌}
use Rattle.std.proofs.Math.Nat.{le_of_mul-le-mul_left, mul-le-mul_left}
use Rattle.std.proofs.lemmas.Int.{ints}
use Rattle.adjust_kernel.specs.Residuals.{residual}
use Rattle.adjust_kernel.specs.Stations.{StationValue, IsStation}
use Rattle.adjust_kernel.specs.Within.{IsWithin}
use Rattle.adjust_kernel.proofs.FirstLaws.{one_first}
use Rattle.exact_adjustment.specs.Adjustments.{AdjustmentValue, choice_by}
use Rattle.exact_adjustment.specs.Exact.{IsExact, IsGreatestAbove, size_at}
use Rattle.exact_adjustment.specs.LeastOf.{AreTied}
use Rattle.exact_adjustment.specs.Nearest.{HasNearestTurns, IsNearest}
use Rattle.exact_adjustment.proofs.ObservedLaws.{agrees, of_each, size_at_place}
use Rattle.exact_adjustment.proofs.FarLaws.{same_size}
use Rattle.exact_adjustment.proofs.NearTurns.{TurnedBy, turned_whole}
use Rattle.exact_adjustment.proofs.SameLaws.{same_residual}

-- What is nearest, twice, is less than one turn apart.
nearest_both : (e : ℕ) (x y : ℤ) → e ≡ 1 → IsNearest x → IsNearest y
    → IsWithin (pos (79_999_999 * e)) (x -ℤ pos e *ℤ y)
nearest_both e x y one f g = rw one (omega (arith, ints))

-- What is no larger over one denominator is so over the other.
no_larger : (d e x y x' y' : ℕ) → 1 ≤ d → e * x ≡ d * x' → e * y ≡ d * y' → x ≤ y → x' ≤ y'
no_larger d e x y x' y' some f g h =
    let l : d * x' ≤ d * y' = omega (arith, f, g, mul-le-mul_left e h) in
    le_of_mul-le-mul_left l some

module _ (station : StationValue) (is_station : IsStation station) (tied : AreTied station) where
  abbrev count : ℕ
  count = length station.obs

  -- Residuals are as large in two exact adjustments, but for their denominators.
  abbrev AreAsLarge : AdjustmentValue → AdjustmentValue → Type 0
  AreAsLarge a b = (n : ℕ) → n < count
      → b.denominator * size_at station a n ≡ a.denominator * size_at station b n

  same_sizes : (a b : AdjustmentValue) → IsExact station a → IsExact station b
      → HasNearestTurns station a.turns → HasNearestTurns station b.turns → AreAsLarge a b
  same_sizes a b exact other near by n inside =
      let c = by.angles in
      let turned : TurnedBy station a.turns b.turns =
      turned_whole station is_station a.turns b.turns exact.each near c (omega (arith, by.whole)) 0
      79_999_999 (omega arith)
      (λ step h. let z = agrees station b.turns other.each is_station c by.nearest.carried step h in
      omega (arith, ints, z))
      (λ m h. nearest_both c.denominator _ _ by.whole
      (of_each station b.turns other.each (λ r. IsNearest (residual c r)) by.nearest.each m h)
      (of_each station a.turns exact.each (λ r. IsNearest (residual near.angles r)) near.nearest.each m
      h)) in
      ap (λ m. b.denominator * m) (size_at_place station a n exact.each inside)
      ∙ same_size a.denominator b.denominator _ _ (same_residual station a is_station tied exact
      (choice_by b) b.turns other.each other.rules.positive other.sums turned n inside)
      ∙ sym (ap (λ m. a.denominator * m) (size_at_place station b n other.each inside))

  abbrev IsLargest : AdjustmentValue → ℕ → Type 0
  IsLargest a k = (m : ℕ) → m < count → size_at station a m ≤ size_at station a k

  largest_too : (a b : AdjustmentValue) → 1 ≤ a.denominator → AreAsLarge a b → (k : ℕ) → k < count
      → IsLargest a k → IsLargest b k
  largest_too a b some sizes k l h = λ m i. no_larger a.denominator b.denominator
      (size_at station a m) (size_at station a k) (size_at station b m) (size_at station b k) some
      (sizes m i) (sizes k l) (h m i)

  -- The greatest residual is that of one observation.
  pub one_greatest : (limit other n m : ℕ) (a b : AdjustmentValue) → IsExact station a
      → IsExact station b → HasNearestTurns station a.turns → HasNearestTurns station b.turns
      → IsGreatestAbove station a limit n → IsGreatestAbove station b other m → n ≡ m
  one_greatest limit other n m a b exact exact' near near' f g =
      let sizes = same_sizes a b exact exact' near near' in
      one_first (IsLargest b) count n m (record {
        inside = f.first.inside;
        here = largest_too a b exact.rules.positive sizes n f.first.inside f.first.here;
        before = λ k l h. f.first.before k l (largest_too b a exact'.rules.positive
            (λ i j. sym (sizes i j)) k (omega (arith, l, f.first.inside)) h);
      }) g.first
