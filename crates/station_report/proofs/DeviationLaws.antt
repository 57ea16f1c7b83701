-- The rounded sum of squares and the rounded standard deviations: by one exact adjustment, by every
-- least choice, and one number.
use Rattle.std.proofs.Common.{◌≡◌, ℕ, ◌+◌, ◌-◌, ◌*◌, ◌/◌, ◌≤◌, ◌<◌, List, Option, Some, None}
use Rattle.std.proofs.Common.{ℤ, pos, negsuc, ◌≤ℤ◌, ◌<ℤ◌, arith, ap, length, refl, sym}
use Rattle.std.proofs.Math.IntN.{◌*ℤ◌}
use Rattle.std.proofs.Math.Nat.{le_of_mul-le-mul_left, mul-le-mul, mul-le-mul_left}
use Rattle.std.proofs.lemmas.Int.{ints}
use native.Mathlib.Decide.{dec_le}
use Rattle.adjust_kernel.specs.Least.{IsSameSum}
use Rattle.adjust_kernel.specs.Residuals.{Choice, residual, sum_of_squares}
use Rattle.adjust_kernel.specs.Stations.{StationValue, IsStation}
use Rattle.adjust_kernel.specs.Sums.{squared}
use Rattle.adjust_kernel.specs.TurnedObservations.{TurnedObservation}
use Rattle.adjust_kernel.specs.declared.bounds.TheConstants.{LARGEST_RESIDUAL_LIMIT}
use Rattle.adjust_kernel.proofs.LeastLaws.{squared-not_negative}
use Rattle.adjust_kernel.proofs.SumLaws.{int_sum_by-not_negative}
use Rattle.exact_adjustment.proofs.ExactLaws.{is_least}
use Rattle.exact_adjustment.specs.Adjustments.{AdjustmentValue, choice_by}
use Rattle.exact_adjustment.specs.Exact.{IsExact, KeepsLimit, observed_by}
use Rattle.exact_adjustment.specs.LeastOf.{AreTied, IsLeastOf, observed_with}
use Rattle.least_directions.proofs.LeastLaws.{least_of}
use Rattle.least_directions.specs.LeastDirections.{IsAdjustable}
use Rattle.station_report.specs.Deviations.{IsAccuracy, IsDeviationOf, IsOfAdjusted, IsRootOf, IsSumOf}
use Rattle.station_report.specs.Deviations.{OfEachLeast, degrees_of, square_above, square_below}
use Rattle.station_report.specs.declared.accuracy.Accuracy.{Accuracy}

-- What is below a fraction s / p is below the same fraction z / q.
lower : (p q f x s z : ℕ) → 1 ≤ p → q * s ≡ p * z → f * p * x ≤ 100 * s → f * q * x ≤ 100 * z
lower p q f x s z some same h =
    let k : q * (f * p * x) ≤ q * (100 * s) = mul-le-mul_left q h in
    let e : q * (100 * s) ≡ p * (100 * z) = omega (arith, same) in
    let g : p * (f * q * x) ≤ p * (100 * z) = omega (arith, k, e) in
    le_of_mul-le-mul_left g some

-- What is above it is.
upper : (p q f y s z : ℕ) → 1 ≤ q → q * s ≡ p * z → 100 * s < f * p * y → 100 * z < f * q * y
upper p q f y s z some same h = by (dec_le (f * q * y) (100 * z))
  where
    by : Dec (f * q * y ≤ 100 * z) → 100 * z < f * q * y
    by (yes l) =
        let k : f * p * y ≤ 100 * s = lower q p f y z s some (sym same) l in absurd (omega arith)
    by (no m) = omega (arith, m)

square_some : (d : ℕ) → 1 ≤ d → 1 ≤ d * d
square_some d h = let k : 1 * 1 ≤ d * d = mul-le-mul h h in omega (arith, k)

-- No sum of squares is negative.
not_negative : (c : Choice) (rs : List TurnedObservation) → pos 0 ≤ℤ sum_of_squares c rs
not_negative c rs =
    int_sum_by-not_negative (λ r. squared (residual c r)) (λ r. squared-not_negative (residual c r))
    rs

by_same_sum : (d e f x y : ℕ) (s z : ℤ) → 1 ≤ d → 1 ≤ e → pos 0 ≤ℤ s → pos 0 ≤ℤ z
    → pos (e * e) *ℤ s ≡ pos (d * d) *ℤ z → pos (f * (d * d) * x) ≤ℤ (pos 100 *ℤ s)
    → (pos 100 *ℤ s) <ℤ pos (f * (d * d) * y)
    → (pos (f * (e * e) * x) ≤ℤ (pos 100 *ℤ z)) × ((pos 100 *ℤ z) <ℤ pos (f * (e * e) * y))
by_same_sum d e f x y (negsuc s) z some others first second same low high =
    absurd (omega (arith, ints, first))
by_same_sum d e f x y (pos s) (negsuc z) some others first second same low high =
    absurd (omega (arith, ints, second))
by_same_sum d e f x y (pos s) (pos z) some others first second same low high =
    let is : (e * e) * s ≡ (d * d) * z = omega (arith, ints, same) in
    let l = lower (d * d) (e * e) f x s z (square_some d some) is (omega (arith, ints, low)) in
    let h = upper (d * d) (e * e) f y s z (square_some e others) is (omega (arith, ints, high)) in
    (omega (arith, ints, l), omega (arith, ints, h))

-- Two least choices of a station have the same sum of squares.
same_of_least : (station : StationValue) (c other : Choice) (ks ls : List ℤ)
    → IsLeastOf station c ks → IsLeastOf station other ls
    → IsSameSum c (observed_with station ks) other (observed_with station ls)
same_of_least station c other ks ls p q =
    let low = p.least other ls q.each q.positive in
    let high = q.least c ks p.each p.positive in
    omega (arith, ints, low, high)

-- What is the root by one least choice is so by every other.
root_of_other : (station : StationValue) (c other : Choice) (ks ls : List ℤ) (f units : ℕ)
    → IsLeastOf station c ks → IsLeastOf station other ls
    → IsRootOf c.denominator f (sum_of_squares c (observed_with station ks)) units
    → IsRootOf other.denominator f (sum_of_squares other (observed_with station ls)) units
root_of_other station c other ks ls f units p q r =
    let both = by_same_sum c.denominator other.denominator f (square_below units)
    (square_above units) (sum_of_squares c (observed_with station ks))
    (sum_of_squares other (observed_with station ls)) p.positive q.positive
    (not_negative c (observed_with station ks)) (not_negative other (observed_with station ls))
    (same_of_least station c other ks ls p q) r.low r.high in
    record { low = both.0; high = both.1 }

-- Twice a bound of half of a sum.
doubled_low : (p x : ℕ) (s : ℤ) → pos (p * x) ≤ℤ (pos 50 *ℤ s) → pos (2 * p * x) ≤ℤ (pos 100 *ℤ s)
doubled_low p x s h = omega (arith, ints, h)

doubled_high : (p y : ℕ) (s : ℤ) → (pos 50 *ℤ s) <ℤ pos (p * y) → (pos 100 *ℤ s) <ℤ pos (2 * p * y)
doubled_high p y s h = omega (arith, ints, h)

halved_low : (p x : ℕ) (s : ℤ) → pos (2 * p * x) ≤ℤ (pos 100 *ℤ s) → pos (p * x) ≤ℤ (pos 50 *ℤ s)
halved_low p x s h = omega (arith, ints, h)

halved_high : (p y : ℕ) (s : ℤ) → (pos 100 *ℤ s) <ℤ pos (2 * p * y) → (pos 50 *ℤ s) <ℤ pos (p * y)
halved_high p y s h = omega (arith, ints, h)

-- What is the sum by one least choice is so by every other.
sum_of_other : (station : StationValue) (c other : Choice) (ks ls : List ℤ) (units : ℕ)
    → IsLeastOf station c ks → IsLeastOf station other ls
    → IsSumOf c.denominator (sum_of_squares c (observed_with station ks)) units
    → IsSumOf other.denominator (sum_of_squares other (observed_with station ls)) units
sum_of_other station c other ks ls units p q r =
    let s = sum_of_squares c (observed_with station ks) in
    let z = sum_of_squares other (observed_with station ls) in
    let d = c.denominator in
    let e = other.denominator in
    let both = by_same_sum d e 2 (2 * units - 1) (2 * units + 1) s z p.positive q.positive
    (not_negative c (observed_with station ks)) (not_negative other (observed_with station ls))
    (same_of_least station c other ks ls p q) (doubled_low (d * d) (2 * units - 1) s r.low)
    (doubled_high (d * d) (2 * units + 1) s r.high) in
    record {
      low = halved_low (e * e) (2 * units - 1) z both.0;
      high = halved_high (e * e) (2 * units + 1) z both.1;
    }

-- By an exact adjustment within the limit, both are those of the station.
pub is_deviation : (station : StationValue) (s : IsStation station) (a : AdjustmentValue)
    (tied : AreTied station) (exact : IsExact station a)
    (limited : KeepsLimit station a LARGEST_RESIDUAL_LIMIT) (number units : ℕ)
    → IsRootOf a.denominator (degrees_of station * number)
    (sum_of_squares (choice_by a) (observed_by station a)) units
    → IsDeviationOf station number units
is_deviation station s a tied exact limited number units r = λ c turns least.
    root_of_other station (choice_by a) c a.turns turns (degrees_of station * number) units
    (is_least station a s tied exact limited) least r

pub is_sum : (station : StationValue) (s : IsStation station) (a : AdjustmentValue)
    (tied : AreTied station) (exact : IsExact station a)
    (limited : KeepsLimit station a LARGEST_RESIDUAL_LIMIT) (units : ℕ)
    → IsSumOf a.denominator (sum_of_squares (choice_by a) (observed_by station a)) units
    → OfEachLeast station (λ denominator squares. IsSumOf denominator squares units)
is_sum station s a tied exact limited units r = λ c turns least.
    sum_of_other station (choice_by a) c a.turns turns units
    (is_least station a s tied exact limited) least r

-- A quotient's root, rounded, is the deviation.
pub rounded_by_quotient : (d f n y units : ℕ) (s : ℤ) → 1 ≤ d → pos (d * n) ≡ s
    → d * f * y ≤ n * 100 → n * 100 < d * f * (y + 1)
    → square_below units ≤ y → y < square_above units
    → (pos (f * (d * d) * square_below units) ≤ℤ (pos 100 *ℤ s))
    × ((pos 100 *ℤ s) <ℤ pos (f * (d * d) * square_above units))
rounded_by_quotient d f n y units s some is from to below above =
    let x = square_below units in
    let z = square_above units in
    let low : (d * f) * x ≤ (d * f) * y = mul-le-mul_left (d * f) below in
    let low2 : (d * f) * x ≤ n * 100 = omega (arith, low, from) in
    let low3 : d * ((d * f) * x) ≤ d * (n * 100) = mul-le-mul_left d low2 in
    let next : y + 1 ≤ z = omega (arith, above) in
    let high : (d * f) * (y + 1) ≤ (d * f) * z = mul-le-mul_left (d * f) next in
    let high2 : n * 100 + 1 ≤ (d * f) * z = omega (arith, high, to) in
    let high3 : d * (n * 100 + 1) ≤ d * ((d * f) * z) = mul-le-mul_left d high2 in
    let low4 : f * (d * d) * x ≤ 100 * (d * n) = omega (arith, low3) in
    let high4 : 100 * (d * n) < f * (d * d) * z = omega (arith, high3, some) in
    (omega (arith, ints, is, low4), omega (arith, ints, is, high4))

-- A number and half of it more: the sum, rounded.
pub rounded_by_halves : (d n units : ℕ) (s : ℤ) → pos (d * n) ≡ s
    → d * 2 * units ≤ n * 50 + d * 1 → n * 50 + d * 1 < d * 2 * (units + 1)
    → (pos (d * d * (2 * units - 1)) ≤ℤ (pos 50 *ℤ s))
    × ((pos 50 *ℤ s) <ℤ pos (d * d * (2 * units + 1)))
rounded_by_halves d n units s is from to = by (dec_le 1 units)
  where
    high : (pos 50 *ℤ s) <ℤ pos (d * d * (2 * units + 1))
    high =
        let less : n * 50 + 1 ≤ d * (2 * units + 1) = omega (arith, to) in
        let some : 1 ≤ d = omega (arith, to) in
        let times : d * (n * 50 + 1) ≤ d * (d * (2 * units + 1)) = mul-le-mul_left d less in
        omega (arith, ints, is, times, some)

    by : Dec (1 ≤ units) → (pos (d * d * (2 * units - 1)) ≤ℤ (pos 50 *ℤ s))
        × ((pos 50 *ℤ s) <ℤ pos (d * d * (2 * units + 1)))
    by (yes some) =
        let x = 2 * units - 1 in
        let next : 2 * units ≡ x + 1 = omega (arith, some) in
        let twice : d * (2 * units) ≡ d * (x + 1) = ap (λ k. d * k) next in
        let few : d * x ≤ n * 50 = omega (arith, from, twice) in
        let times : d * (d * x) ≤ d * (n * 50) = mul-le-mul_left d few in
        (omega (arith, ints, is, times), high)
    by (no m) =
        let none : units ≡ 0 = omega (arith, m) in
        (rw none (omega (arith, ints, is)), high)

-- Of numbers between whose bounds a sum lies, where those of a greater one begin when these end,
-- there is one.
not_less : (from to : ℕ → ℕ) → ((a b : ℕ) → a < b → to a ≤ from b) → (p a b : ℕ) (s : ℤ) → a < b
    → s <ℤ pos (p * to a) → pos (p * from b) ≤ℤ s → ⊥
not_less from to apart p a b s less high low =
    let more : p * to a ≤ p * from b = mul-le-mul_left p (apart a b less) in
    omega (arith, ints, high, low, more)

pub one_number : (from to : ℕ → ℕ) → ((a b : ℕ) → a < b → to a ≤ from b) → (p a b : ℕ) (s : ℤ)
    → s <ℤ pos (p * to a) → pos (p * from a) ≤ℤ s → s <ℤ pos (p * to b) → pos (p * from b) ≤ℤ s
    → a ≡ b
one_number from to apart p a b s a_high a_low b_high b_low = by (dec_le a b)
  where
    again : Dec (b ≤ a) → a ≤ b → a ≡ b
    again (yes l) h = omega (arith, l, h)
    again (no m) h =
        absurd (not_less from to apart p a b s (omega (arith, m)) a_high b_low)

    by : Dec (a ≤ b) → a ≡ b
    by (yes h) = again (dec_le b a) h
    by (no m) = absurd (not_less from to apart p b a s (omega (arith, m)) b_high a_low)

pub squares_apart : (a b : ℕ) → a < b → square_above a ≤ square_below b
squares_apart a b less =
    let k : 2 * a + 1 ≤ 2 * b - 1 = omega (arith, less) in mul-le-mul k k

halves_apart : (a b : ℕ) → a < b → 2 * a + 1 ≤ 2 * b - 1
halves_apart a b less = omega (arith, less)

-- A station has one deviation of a mean of so many, and one sum of squares.
one_deviation_of : (station : StationValue) (number a b : ℕ) → IsAdjustable station
    → IsDeviationOf station number a → IsDeviationOf station number b → a ≡ b
one_deviation_of station number a b adjustable p q =
    let least = least_of station adjustable in
    let c = choice_by adjustable.adjustment in
    let turns = adjustable.adjustment.turns in
    let x = p c turns least in
    let y = q c turns least in
    one_number square_below square_above squares_apart
    (degrees_of station * number * (c.denominator * c.denominator)) a b
    (pos 100 *ℤ sum_of_squares c (observed_with station turns)) x.high x.low y.high y.low

one_sum : (station : StationValue) (a b : ℕ) → IsAdjustable station
    → OfEachLeast station (λ denominator squares. IsSumOf denominator squares a)
    → OfEachLeast station (λ denominator squares. IsSumOf denominator squares b) → a ≡ b
one_sum station a b adjustable p q =
    let least = least_of station adjustable in
    let c = choice_by adjustable.adjustment in
    let turns = adjustable.adjustment.turns in
    let x = p c turns least in
    let y = q c turns least in
    one_number (λ n. 2 * n - 1) (λ n. 2 * n + 1) halves_apart (c.denominator * c.denominator) a b
    (pos 50 *ℤ sum_of_squares c (observed_with station turns)) x.high x.low y.high y.low

one_of_adjusted : (station : StationValue) (a b : Option ℕ) → IsAdjustable station
    → IsOfAdjusted station a → IsOfAdjusted station b → a ≡ b
one_of_adjusted station None None adjustable p q = refl
one_of_adjusted station None (Some b) adjustable p q = absurd (p q.0)
one_of_adjusted station (Some a) None adjustable p q = absurd (q p.0)
one_of_adjusted station (Some a) (Some b) adjustable p q =
    ap Some (one_deviation_of station (length station.sets) a b adjustable p.1 q.1)

-- A station has one accuracy.
pub one_accuracy : (station : StationValue) (a b : Option Accuracy) → IsAdjustable station
    → IsAccuracy station a → IsAccuracy station b → a ≡ b
one_accuracy station None None adjustable p q = refl
one_accuracy station None (Some b) adjustable p q =
    let some = q.some in absurd (omega (arith, p, some))
one_accuracy station (Some a) None adjustable p q =
    let some = p.some in absurd (omega (arith, q, some))
one_accuracy station (Some a) (Some b) adjustable p q =
    let squares = one_sum station a.squares b.squares adjustable p.squares q.squares in
    let of_one = one_deviation_of station 1 a.of_one b.of_one adjustable p.of_one q.of_one in
    let of_adjusted = one_of_adjusted station a.of_adjusted b.of_adjusted adjustable p.of_adjusted
    q.of_adjusted in
    (λ i. Some (record {
      squares = squares i;
      of_one = of_one i;
      of_adjusted = of_adjusted i;
    }))

-- The bound of the quotient.
pub below_most : (d f n squares : ℕ) → 1 ≤ d → 1 ≤ f → squares ≤ d * (4_000_000 * n)
    → squares * 100 < d * f * (400_000_000 * n / f + 1)
below_most d f n squares some free few =
    let q = 400_000_000 * n / f in
    let more : 400_000_000 * n + 1 ≤ f * (q + 1) = omega arith in
    let times : d * (400_000_000 * n + 1) ≤ d * (f * (q + 1)) = mul-le-mul_left d more in
    omega (arith, some, few, times)

pub fits_most : (d f n wide : ℕ) → 1 ≤ f → f ≤ 160_000 → n ≤ 4_000
    → d * 65_000_000_000_000 < wide → d * f * (400_000_000 * n / f + 1) < wide
fits_most d f n wide free few_free few short =
    let q = 400_000_000 * n / f in
    let less : f * (q + 1) ≤ 65_000_000_000_000 = omega (arith, few_free, few) in
    let times : d * (f * (q + 1)) ≤ d * 65_000_000_000_000 = mul-le-mul_left d less in
    omega (arith, times, short)

-- The same of the sum.
pub sum_below_most : (d n squares : ℕ) → 1 ≤ d → squares ≤ d * (4_000_000 * n)
    → squares * 50 + d * 1 < d * 2 * (100_000_000 * n + 1)
sum_below_most d n squares some few = omega (arith, some, few)

pub sum_fits_most : (d n wide : ℕ) → n ≤ 4_000 → d * 65_000_000_000_000 < wide
    → d * 2 * (100_000_000 * n + 1) < wide
sum_fits_most d n wide few short =
    let less : 2 * (100_000_000 * n + 1) ≤ 65_000_000_000_000 = omega (arith, few) in
    let times : d * (2 * (100_000_000 * n + 1)) ≤ d * 65_000_000_000_000 = mul-le-mul_left d less in
    omega (arith, times, short)
