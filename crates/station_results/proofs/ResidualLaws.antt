-- Residuals rounded, and adjusted directions.
use Rattle.std.proofs.Common.{◌≡◌, ℕ, ◌+◌, ◌*◌, ◌/◌, ◌%◌, ◌≤◌, ◌<◌, ◌≤ℤ◌, ◌<ℤ◌, ℤ, pos, neg_ℤ, ◌+ℤ◌}
use Rattle.std.proofs.Common.{arith, ap, sym, subst, ◌∙◌}
use Rattle.std.proofs.Math.IntN.{◌*ℤ◌, ◌-ℤ◌}
use Rattle.std.proofs.lemmas.Int.{ints}
use Rattle.adjust_kernel.proofs.Ring.{num, ◌⊕◌, ◌⊖◌, ◌⊗◌, same_value}
use Rattle.adjust_kernel.specs.Residuals.{Choice, residual}
use Rattle.adjust_kernel.specs.TurnedObservations.{TurnedObservation}
use Rattle.directions_apart.specs.Arcs.{IsWayRound}
use Rattle.directions_apart.specs.Rounding.{IsRounded}
use Rattle.directions_apart.specs.Rounding as rounding
use Rattle.adjust_kernel.specs.declared.units.TheConstants.{CIRCLE, UNIT}
use Rattle.station_results.specs.Residuals.{IsRoundedResidual, seen_in, twice_more}
use Rattle.station_results.proofs.Fractions.{high, low, none_of}

-- Twice what a lifted number is more than a residual, in parts of a quotient.
off : (d n : ℕ) (v : ℤ)
    → pos 2 *ℤ (pos d *ℤ (pos 1_000 *ℤ (pos n -ℤ pos 10_000)) -ℤ pos 5_000 *ℤ v)
    ≡ pos (2_000 * (d * n)) -ℤ pos (20_000_000 * d) -ℤ pos 10_000 *ℤ v
off d n v =
    same_value
    (num (pos 2) ⊗ (num (pos d) ⊗ (num (pos 1_000) ⊗ (num (pos n) ⊖ num (pos 10_000)))
    ⊖ num (pos 5_000) ⊗ num v))
    (num (pos (2_000 * (d * n))) ⊖ num (pos (20_000_000 * d)) ⊖ num (pos 10_000) ⊗ num v)
    (omega arith)

-- The parts of a residual: ten to a half unit, and lifted by 20,001 over the denominator.
parts_are : (d left right parts : ℕ) (v : ℤ) → (pos left -ℤ pos right) ≡ v
    → parts + 10 * right ≡ 10 * left + 20_001 * d
    → pos 10_000 *ℤ v ≡ pos (1_000 * parts) -ℤ pos (20_001_000 * d)
parts_are d left right parts v is sum =
    let e : pos 10_000 *ℤ (pos left -ℤ pos right) ≡ pos (10_000 * left) -ℤ pos (10_000 * right) =
    same_value (num (pos 10_000) ⊗ (num (pos left) ⊖ num (pos right)))
    (num (pos (10_000 * left)) ⊖ num (pos (10_000 * right))) (omega arith) in
    let f : pos (10_000 * left) -ℤ pos (10_000 * right)
    ≡ pos (1_000 * parts) -ℤ pos (20_001_000 * d) = omega (arith, ints, sum) in
    ap (λ z. pos 10_000 *ℤ z) (sym is) ∙ e ∙ f

-- The quotient of the parts is the residual rounded, lifted.
pub rounded_is : (c : Choice) (o : TurnedObservation) (n left right parts : ℕ)
    → (pos left -ℤ pos right) ≡ residual c o
    → parts + 10 * right ≡ 10 * left + 20_001 * c.denominator
    → c.denominator * 2 * n ≤ parts → parts < c.denominator * 2 * (n + 1)
    → IsRoundedResidual c o (pos n -ℤ pos 10_000)
rounded_is c o n left right parts is sum from to =
    let e = off c.denominator n (residual c o) in
    let f = parts_are c.denominator left right parts (residual c o) is sum in
    record {
      low = omega (arith, ints, e, f, to);
      high = omega (arith, ints, e, f, from);
    }

-- The parts are a natural number.
pub some_left : (d left right : ℕ) (v : ℤ) → (pos left -ℤ pos right) ≡ v
    → neg_ℤ (pos (2_000 * d)) ≤ℤ v → 10 * right ≤ 10 * left + 20_001 * d
some_left d left right v is least = omega (arith, ints, is, least)

-- And no more than twice the largest residual goes into them.
pub few_parts : (d left right parts : ℕ) (v : ℤ) → 1 ≤ d → (pos left -ℤ pos right) ≡ v
    → v ≤ℤ pos (2_000 * d) → parts + 10 * right ≡ 10 * left + 20_001 * d
    → parts < d * 2 * 20_001
few_parts d left right parts v some is most sum = omega (arith, ints, some, is, most, sum)

-- A direction and a lifted residual together, on the circle.
pub way_is : (v n lifted : ℕ) → lifted ≡ 5_000 * v + 1_000 * n + 399_990_000_000
    → IsWayRound CIRCLE (pos 0) (pos (5_000 * v) +ℤ pos 1_000 *ℤ (pos n -ℤ pos 10_000))
    (lifted % 400_000_000_000)
way_is v n lifted is =
    let q = lifted / 400_000_000_000 in
    let parts : lifted ≡ 400_000_000_000 * q + lifted % 400_000_000_000 = omega arith in
    let units : pos 1_000 *ℤ (pos n -ℤ pos 10_000) ≡ pos (1_000 * n) -ℤ pos 10_000_000 =
    same_value (num (pos 1_000) ⊗ (num (pos n) ⊖ num (pos 10_000)))
    (num (pos (1_000 * n)) ⊖ num (pos 10_000_000)) (omega arith) in
    let circles : pos 400_000_000_000 *ℤ (pos 1 -ℤ pos q)
    ≡ pos 400_000_000_000 -ℤ pos (400_000_000_000 * q) =
    same_value (num (pos 400_000_000_000) ⊗ (num (pos 1) ⊖ num (pos q)))
    (num (pos 400_000_000_000) ⊖ num (pos (400_000_000_000 * q))) (omega arith) in
    record {
      turns = pos 1 -ℤ pos q;
      there = omega (arith, ints, is, parts, units, circles);
      below = omega arith;
    }

-- The same of a residual that is written in another way.
pub way_of : (v : ℕ) (a b : ℤ) (adjusted : ℕ) → a ≡ b
    → IsWayRound CIRCLE (pos 0) (pos (5_000 * v) +ℤ pos 1_000 *ℤ a) adjusted
    → IsWayRound CIRCLE (pos 0) (pos (5_000 * v) +ℤ pos 1_000 *ℤ b) adjusted
way_of v a b adjusted same way =
    subst (λ z. IsWayRound CIRCLE (pos 0) (pos (5_000 * v) +ℤ pos 1_000 *ℤ z) adjusted) same way

-- What a rounded direction is more than that of a choice seen in a set is what the rounded residual
-- is more than the residual.
same_off : (d v adjusted : ℕ) (a s k u w : ℤ)
    → pos 0 +ℤ pos adjusted ≡ (pos (5_000 * v) +ℤ pos 1_000 *ℤ u) +ℤ pos 400_000_000_000 *ℤ w
    → pos 2 *ℤ ((pos d *ℤ pos adjusted -ℤ pos 5_000 *ℤ (a -ℤ s))
    +ℤ pos (d * 400_000_000_000) *ℤ (k -ℤ w))
    ≡ pos 2 *ℤ (pos d *ℤ (pos 1_000 *ℤ u)
    -ℤ pos 5_000 *ℤ (a -ℤ s -ℤ pos d *ℤ (pos v +ℤ pos 80_000_000 *ℤ k)))
same_off d v adjusted a s k u w there =
    let is : pos adjusted ≡ (pos (5_000 * v) +ℤ pos 1_000 *ℤ u) +ℤ pos 400_000_000_000 *ℤ w =
    omega (arith, ints, there) in
    ap (λ z. pos 2 *ℤ ((pos d *ℤ z -ℤ pos 5_000 *ℤ (a -ℤ s))
    +ℤ pos (d * 400_000_000_000) *ℤ (k -ℤ w))) is
    ∙ same_value
    (num (pos 2) ⊗ ((num (pos d) ⊗ ((num (pos (5_000 * v)) ⊕ num (pos 1_000) ⊗ num u)
    ⊕ num (pos 400_000_000_000) ⊗ num w) ⊖ num (pos 5_000) ⊗ (num a ⊖ num s))
    ⊕ num (pos (d * 400_000_000_000)) ⊗ (num k ⊖ num w)))
    (num (pos 2) ⊗ (num (pos d) ⊗ (num (pos 1_000) ⊗ num u)
    ⊖ num (pos 5_000) ⊗ (num a ⊖ num s ⊖ num (pos d) ⊗ (num (pos v)
    ⊕ num (pos 80_000_000) ⊗ num k))))
    (omega arith)

-- A direction that a two-face direction and its residual add up to is a whole number of units.
whole : (v adjusted : ℕ) (u w : ℤ)
    → pos 0 +ℤ pos adjusted ≡ (pos (5_000 * v) +ℤ pos 1_000 *ℤ u) +ℤ pos 400_000_000_000 *ℤ w
    → adjusted % 1_000 ≡ 0
whole v adjusted u w there =
    let parts : adjusted ≡ 1_000 * (adjusted / 1_000) + adjusted % 1_000 = omega arith in
    omega (arith, ints, there, parts)

-- So it is the adjusted direction, rounded.
pub adjusted_is : (c : Choice) (o : TurnedObservation) (units : ℤ) (adjusted : ℕ)
    → IsRoundedResidual c o units
    → IsWayRound CIRCLE (pos 0) (pos (5_000 * o.value) +ℤ pos 1_000 *ℤ units) adjusted
    → IsRounded (seen_in c o.set) o.target UNIT adjusted
adjusted_is c o units adjusted r way =
    let e : rounding.twice_more_than_direction (seen_in c o.set) o.target adjusted
    (o.turn -ℤ way.turns)
    ≡ twice_more c o units =
    same_off c.denominator o.value adjusted (c.direction o.target) (c.orientation o.set) o.turn
    units way.turns way.there in
    record {
      whole = whole o.value adjusted units way.turns way.there;
      below = way.below;
      circles = o.turn -ℤ way.turns;
      low = subst (λ z. neg_ℤ (pos (1_000 * c.denominator)) <ℤ z) (sym e) r.low;
      high = subst (λ z. z ≤ℤ pos (1_000 * c.denominator)) (sym e) r.high;
    }

-- By one rotation and whole turns of a target and a set, the residual is the same fraction.
turned_residual : (d e v : ℕ) (a s b t k ot os : ℤ)
    → pos d *ℤ (b -ℤ t -ℤ pos e *ℤ (pos v +ℤ pos 80_000_000 *ℤ ((k +ℤ ot) -ℤ os)))
    ≡ pos e *ℤ (a -ℤ s -ℤ pos d *ℤ (pos v +ℤ pos 80_000_000 *ℤ k))
    +ℤ ((pos e *ℤ s -ℤ pos d *ℤ (t -ℤ pos (e * 80_000_000) *ℤ os))
    -ℤ (pos e *ℤ a -ℤ pos d *ℤ (b -ℤ pos (e * 80_000_000) *ℤ ot)))
turned_residual d e v a s b t k ot os =
    let d' = num (pos d) in
    let e' = num (pos e) in
    let v' = num (pos v) in
    let circle = num (pos 80_000_000) in
    let turn = num (pos (e * 80_000_000)) in
    same_value
    (d' ⊗ (num b ⊖ num t ⊖ e' ⊗ (v' ⊕ circle ⊗ ((num k ⊕ num ot) ⊖ num os))))
    (e' ⊗ (num a ⊖ num s ⊖ d' ⊗ (v' ⊕ circle ⊗ num k))
    ⊕ ((e' ⊗ num s ⊖ d' ⊗ (num t ⊖ turn ⊗ num os)) ⊖ (e' ⊗ num a ⊖ d' ⊗ (num b ⊖ turn ⊗ num ot))))
    (omega arith)

no_rotation_left : (x y z z0 r : ℤ) → x ≡ y +ℤ (z -ℤ z0) → z ≡ r → z0 ≡ r → x ≡ y
no_rotation_left x y z z0 r is f g = omega (arith, ints, is, f, g)

-- So is what a number of units is more than it.
same_more : (d e : ℕ) (u y z : ℤ) → pos d *ℤ y ≡ pos e *ℤ z
    → pos d *ℤ (pos 2 *ℤ (pos e *ℤ (pos 1_000 *ℤ u) -ℤ pos 5_000 *ℤ y))
    ≡ pos e *ℤ (pos 2 *ℤ (pos d *ℤ (pos 1_000 *ℤ u) -ℤ pos 5_000 *ℤ z))
same_more d e u y z same =
    let first : pos d *ℤ (pos 2 *ℤ (pos e *ℤ (pos 1_000 *ℤ u) -ℤ pos 5_000 *ℤ y))
    ≡ pos (2_000 * (d * e)) *ℤ u -ℤ pos 10_000 *ℤ (pos d *ℤ y) =
    same_value
    (num (pos d) ⊗ (num (pos 2) ⊗ (num (pos e) ⊗ (num (pos 1_000) ⊗ num u)
    ⊖ num (pos 5_000) ⊗ num y)))
    (num (pos (2_000 * (d * e))) ⊗ num u ⊖ num (pos 10_000) ⊗ (num (pos d) ⊗ num y))
    (omega arith) in
    let second : pos (2_000 * (d * e)) *ℤ u -ℤ pos 10_000 *ℤ (pos e *ℤ z)
    ≡ pos e *ℤ (pos 2 *ℤ (pos d *ℤ (pos 1_000 *ℤ u) -ℤ pos 5_000 *ℤ z)) =
    same_value
    (num (pos (2_000 * (d * e))) ⊗ num u ⊖ num (pos 10_000) ⊗ (num (pos e) ⊗ num z))
    (num (pos e) ⊗ (num (pos 2) ⊗ (num (pos d) ⊗ (num (pos 1_000) ⊗ num u)
    ⊖ num (pos 5_000) ⊗ num z)))
    (omega arith) in
    first ∙ ap (λ w. pos (2_000 * (d * e)) *ℤ u -ℤ pos 10_000 *ℤ w) same ∙ second

-- A residual is rounded to the same by another choice that differs by one rotation and whole turns.
pub as_residual : (c other : Choice) (o : TurnedObservation) (ot os rotation units : ℤ)
    → 1 ≤ c.denominator → 1 ≤ other.denominator
    → pos other.denominator *ℤ c.direction o.target -ℤ pos c.denominator
    *ℤ (other.direction o.target -ℤ pos (other.denominator * 80_000_000) *ℤ ot) ≡ rotation
    → pos other.denominator *ℤ c.orientation o.set -ℤ pos c.denominator
    *ℤ (other.orientation o.set -ℤ pos (other.denominator * 80_000_000) *ℤ os) ≡ rotation
    → IsRoundedResidual c o units
    → IsRoundedResidual other (record o { turn = (o.turn +ℤ ot) -ℤ os }) units
as_residual c other o ot os rotation units some others f g r =
    let d = c.denominator in
    let e = other.denominator in
    let a = c.direction o.target in
    let s = c.orientation o.set in
    let b = other.direction o.target in
    let t = other.orientation o.set in
    let fraction : pos d *ℤ residual other (record o { turn = (o.turn +ℤ ot) -ℤ os })
    ≡ pos e *ℤ residual c o =
    no_rotation_left (pos d *ℤ residual other (record o { turn = (o.turn +ℤ ot) -ℤ os }))
    (pos e *ℤ residual c o)
    (pos e *ℤ s -ℤ pos d *ℤ (t -ℤ pos (e * 80_000_000) *ℤ os))
    (pos e *ℤ a -ℤ pos d *ℤ (b -ℤ pos (e * 80_000_000) *ℤ ot)) rotation
    (turned_residual d e o.value a s b t o.turn ot os) g f in
    let same : pos d *ℤ twice_more other (record o { turn = (o.turn +ℤ ot) -ℤ os }) units
    ≡ pos e *ℤ twice_more c o units =
    same_more d e units (residual other (record o { turn = (o.turn +ℤ ot) -ℤ os })) (residual c o)
    fraction in
    record {
      low = low d e 1_000 _ _ some others (omega arith) same r.low;
      high = high d e 1_000 _ _ some same r.high;
    }

units_apart : (d : ℕ) (v a b : ℤ)
    → pos 2 *ℤ (pos d *ℤ (pos 1_000 *ℤ a) -ℤ pos 5_000 *ℤ v)
    -ℤ pos 2 *ℤ (pos d *ℤ (pos 1_000 *ℤ b) -ℤ pos 5_000 *ℤ v)
    ≡ pos (2_000 * d) *ℤ (a -ℤ b)
units_apart d v a b =
    same_value
    (num (pos 2) ⊗ (num (pos d) ⊗ (num (pos 1_000) ⊗ num a) ⊖ num (pos 5_000) ⊗ num v)
    ⊖ num (pos 2) ⊗ (num (pos d) ⊗ (num (pos 1_000) ⊗ num b) ⊖ num (pos 5_000) ⊗ num v))
    (num (pos (2_000 * d)) ⊗ (num a ⊖ num b)) (omega arith)

-- A rounded residual is one number.
pub one_residual : (c : Choice) (o : TurnedObservation) (a b : ℤ) → IsRoundedResidual c o a
    → IsRoundedResidual c o b → a ≡ b
one_residual c o a b p q =
    let apart = units_apart c.denominator (residual c o) a b in
    let a_low = p.low in
    let a_high = p.high in
    let b_low = q.low in
    let b_high = q.high in
    let none : a -ℤ b ≡ pos 0 =
    none_of (2_000 * c.denominator) (a -ℤ b)
    (omega (arith, ints, apart, a_low, b_high)) (omega (arith, ints, apart, a_high, b_low)) in
    omega (arith, ints, none)
