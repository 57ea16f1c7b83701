-- Rounding to steps, on the circle, and what rounded directions say of every least choice.
use Rattle.std.proofs.Common.{◌≡◌, ℕ, ◌+◌, ◌*◌, ◌/◌, ◌%◌, ◌≤◌, ◌<◌, ◌≤ℤ◌, ◌<ℤ◌, ◌+ℤ◌, ℤ, pos}
use Rattle.std.proofs.Common.{negsuc, zero, suc, neg_ℤ, arith, ap, ◌∙◌}
use Rattle.std.proofs.Math.IntN.{◌*ℤ◌, ◌-ℤ◌}
use Rattle.std.proofs.Math.Nat.{mod-mod_of_dvd, mul-le-mul, mul-le-mul_right, mul-mod_left}
use Rattle.std.proofs.lemmas.Int.{ints}
use Rattle.std.proofs.lemmas.Nat.Gcd.{dvd_of_mod-eq-zero}
use Rattle.adjust_kernel.specs.Residuals.{Choice}
use Rattle.adjust_kernel.specs.Within.{IsWithin}
use Rattle.directions_apart.specs.Apart.{AreBroughtNear, IsApart}
use Rattle.directions_apart.specs.Arcs.{IsWayRound}
use Rattle.directions_apart.specs.Rounding.{IsRounded, from_first, twice_more_than_direction}
use Rattle.adjust_kernel.specs.declared.units.TheConstants.{CIRCLE}
use Rattle.directions_apart.proofs.ApartLaws.{AreTurned}
use Rattle.directions_apart.proofs.ArcLaws.{no_circle}
use Rattle.exact_adjustment.proofs.NearTurns.{chosen}
use Rattle.exact_adjustment.proofs.Products.{none_of, products, times_within}

-- The nearest whole number of steps, less full circles, is the rounded direction.
pub rounded_is : (c : Choice) (t step n x : ℕ) → 1 ≤ step → CIRCLE % step ≡ 0
    → IsWayRound (c.denominator * 400_000_000_000) (pos 0) (pos 5_000 *ℤ c.direction t) x
    → 2 * (n * (c.denominator * step)) ≤ 2 * x + c.denominator * step
    → 2 * x + c.denominator * step < 2 * (n * (c.denominator * step))
    + 2 * (c.denominator * step)
    → IsRounded c t step (n * step % CIRCLE)
rounded_is c t step n x some whole way low high =
    let d = c.denominator in
    let q = n * step / CIRCLE in
    let left = n * step % CIRCLE in
    let parts : d * (q * 400_000_000_000 + left) ≡ d * (n * step) = ap (λ m. d * m) (omega arith) in
    let there = way.there in
    let is : twice_more_than_direction c t left (pos q -ℤ way.turns)
    ≡ pos (2 * (n * (d * step))) -ℤ pos (2 * x) =
    simp products (omega (arith, ints, parts)) in
    record {
      whole = mod-mod_of_dvd step (n * step) (dvd_of_mod-eq-zero step whole) ∙ mul-mod_left n step;
      below = omega arith;
      circles = pos q -ℤ way.turns;
      low = omega (arith, ints, is, high);
      high = omega (arith, ints, is, low);
    }

-- A rounded direction is one number.
pub one_rounded : (c : Choice) (t step a b : ℕ) → 1 ≤ c.denominator → 1 ≤ step → CIRCLE % step ≡ 0
    → IsRounded c t step a → IsRounded c t step b → a ≡ b
one_rounded c t step a b positive some whole ra rb =
    let d = c.denominator in
    let m = a / step in
    let n = b / step in
    let q = CIRCLE / step in
    let j = ra.circles in
    let k = rb.circles in
    let a_is : a ≡ m * step = omega (arith, ra.whole) in
    let b_is : b ≡ n * step = omega (arith, rb.whole) in
    let circle_is : 400_000_000_000 ≡ q * step = omega (arith, whole) in
    let da = ap (λ x. d * x) a_is in
    let db = ap (λ x. d * x) b_is in
    let dj = ap (λ x. pos (d * x) *ℤ j) circle_is in
    let dk = ap (λ x. pos (d * x) *ℤ k) circle_is in
    let low = simp products at ra.low in
    let high = simp products at ra.high in
    let other_low = simp products at rb.low in
    let other_high = simp products at rb.high in
    let none : (pos m -ℤ pos n) +ℤ pos q *ℤ (j -ℤ k) ≡ pos 0 =
    none_of (2 * (step * d)) _ (simp products (omega (arith, ints)))
    (simp products (omega (arith, ints))) in
    let steps = simp products at (ap (λ z. pos step *ℤ z) none) in
    let cj = ap (λ x. pos x *ℤ j) circle_is in
    let ck = ap (λ x. pos x *ℤ k) circle_is in
    no_circle 400_000_000_000 a b (k -ℤ j) ra.below rb.below (simp products (omega (arith, ints)))

-- A direction of 0 is rounded to 0.
pub rounded_of_0 : (c : Choice) (t step rounded : ℕ) → 1 ≤ c.denominator → 1 ≤ step
    → CIRCLE % step ≡ 0 → c.direction t ≡ pos 0 → IsRounded c t step rounded → rounded ≡ 0
rounded_of_0 c t step rounded positive some whole at_0 r =
    let here : twice_more_than_direction c t 0 (pos 0) ≡ pos 0 = rw at_0 (omega (arith, ints)) in
    let large = mul-le-mul some positive in
    one_rounded c t step rounded 0 positive some whole r (record {
      whole = omega arith;
      below = omega arith;
      circles = pos 0;
      low = omega (arith, ints, here, large);
      high = omega (arith, ints, here, large);
    })

-- Rounded directions are as near as half a step, with no rotation.
pub rounded_near : (targets step : ℕ) (c : Choice) (stated : ℕ → ℕ)
    → ((t : ℕ) → t < targets → IsRounded c t step (stated t))
    → AreBroughtNear targets c (λ t. pos (81 * stated t)) (81 * step)
rounded_near targets step c stated each =
    let known = chosen (λ t k. IsWithin (pos (step * c.denominator))
    (twice_more_than_direction c t (stated t) k))
    targets (λ t h. let low = (each t h).low in let high = (each t h).high in
    ((each t h).circles, omega (arith, ints))) in
    record {
      parts = 1;
      positive = omega arith;
      rotation = pos 0;
      circles = known.0;
      each = λ t h. let w = simp products at (times_within 81 _ _ (known.1 t h)) in
          simp products (omega (arith, ints));
    }

-- What was rounded to small steps is apart by no more than half of them.
pub rounded_agrees : (targets step off most apart : ℕ) (c : Choice) (stated : ℕ → ℕ)
    → 81 * step + 2 * off ≤ 162_000 * most
    → ((t : ℕ) → t < targets → IsRounded c t step (stated t))
    → IsApart targets c (λ t. pos (81 * stated t)) off apart → apart ≤ most
rounded_agrees targets step off most apart c stated small each is =
    let none : most < apart → ⊥ = λ h. is.no_nearer most h (record {
      near = 81 * step;
      brought = rounded_near targets step c stated each;
      counted = small;
    }) in
    omega (arith, none)

-- What is a number over another denominator has its sign.
same_sign : (d e : ℕ) (y z : ℤ) → 1 ≤ d → pos d *ℤ y ≡ pos e *ℤ z → pos 0 ≤ℤ z → pos 0 ≤ℤ y
same_sign d e (pos m) z some is h = omega (arith, ints)
same_sign d e (negsuc m) (pos n) some is h = absurd (omega (arith, ints, is))
same_sign d e (negsuc m) (negsuc n) some is h = absurd (omega (arith, ints, h))

above_zero : (d e : ℕ) (y z : ℤ) → 1 ≤ e → pos d *ℤ y ≡ pos e *ℤ z → pos 0 <ℤ z → pos 0 <ℤ y
above_zero d e (pos zero) (pos n) some is h = absurd (omega (arith, ints, mul-le-mul_right n some))
above_zero d e (pos (suc m)) z some is h = omega (arith, ints)
above_zero d e (negsuc m) (pos n) some is h = absurd (omega (arith, ints, mul-le-mul_right n some))
above_zero d e y (negsuc n) some is h = absurd (omega (arith, ints, h))

-- What is within half a step over one denominator is so over the other.
half_too : (d e step : ℕ) (y z : ℤ) → 1 ≤ d → 1 ≤ e → pos d *ℤ y ≡ pos e *ℤ z
    → neg_ℤ (pos (step * d)) <ℤ z → z ≤ℤ pos (step * d)
    → (neg_ℤ (pos (step * e)) <ℤ y) × (y ≤ℤ pos (step * e))
half_too d e step y z some others same low high =
    let above : pos 0 <ℤ (pos (step * e) +ℤ y) = above_zero d e _ (pos (step * d) +ℤ z) others
    (simp products (omega (arith, ints))) (omega (arith, ints)) in
    let below : pos 0 ≤ℤ (pos (step * e) -ℤ y) = same_sign d e _ (pos (step * d) -ℤ z) some
    (simp products (omega (arith, ints))) (omega (arith, ints)) in
    (omega (arith, ints), omega (arith, ints))

-- A direction rounded, where the first is 0, is the other choice's from its first, rounded.
pub as_rounded : (targets : ℕ) (c other : Choice) (t step rounded : ℕ) → 1 ≤ c.denominator
    → 1 ≤ other.denominator → 1 ≤ step → t < targets → AreTurned targets c other
    → c.direction 0 ≡ pos 0 → IsRounded c t step rounded
    → IsRounded (from_first other) t step rounded
as_rounded targets c other t step rounded some others steps inside s at_0 r =
    let d = c.denominator in
    let e = other.denominator in
    let circles = r.circles +ℤ (s.turns t -ℤ s.turns 0) in
    let y = twice_more_than_direction (from_first other) t rounded circles in
    let z = twice_more_than_direction c t rounded r.circles in
    let f = simp products at (s.directions t inside) in
    let g = simp products at (s.directions 0 (omega (arith, inside))) in
    let first : pos e *ℤ c.direction 0 ≡ pos 0 =
    ap (λ x. pos e *ℤ x) at_0 ∙ omega (arith, ints) in
    let same : pos d *ℤ y ≡ pos e *ℤ z = simp products (omega (arith, ints)) in
    let (low, high) = half_too d e step y z some others same r.low r.high in
    record {
      whole = r.whole;
      below = r.below;
      circles = circles;
      low = low;
      high = high;
    }
