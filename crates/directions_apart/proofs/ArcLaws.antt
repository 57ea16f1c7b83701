-- The way round a circle, and arcs that hold angles.
use Rattle.std.proofs.Common.{◌≡◌, ℕ, ◌+◌, ◌*◌, ◌/◌, ◌≤◌, ◌<◌, ◌+ℤ◌, ℤ, pos, negsuc, arith, ap}
use Rattle.std.proofs.Common.{below_more, ◌∙◌}
use Rattle.std.specs.Prelude.{max}
use Rattle.std.specs.Int.{int_rem_euclid}
use Rattle.std.specs.Int.RustNames.{unsigned_abs}
use Rattle.std.proofs.Math.IntN.{◌*ℤ◌, ◌-ℤ◌}
use Rattle.std.proofs.lemmas.Int.{ints}
use Rattle.directions_apart.specs.Arcs.{IsExtent, IsWayRound}
use Rattle.exact_adjustment.proofs.Products.{none_of, products}

-- What is left of a number after full circles.
left_of_circles : (z : ℤ) (circle : ℕ) → 1 ≤ circle
    → (turns : ℤ) × (pos (unsigned_abs (int_rem_euclid z (pos circle))) ≡ z +ℤ pos circle *ℤ turns)
    × (unsigned_abs (int_rem_euclid z (pos circle)) < circle)
left_of_circles (pos a) circle h =
    (pos 0 -ℤ pos (a / circle), simp products (omega (arith, ints)), omega arith)
left_of_circles (negsuc a) circle h = (pos (a / circle + 1), omega (arith, ints), omega arith)

-- The way round from an angle to another is their difference, less full circles.
pub way_round_is : (circle : ℕ) (from to : ℤ) → 1 ≤ circle
    → IsWayRound circle from to (unsigned_abs (int_rem_euclid (to -ℤ from) (pos circle)))
way_round_is circle from to h =
    let (turns, is, below) = left_of_circles (to -ℤ from) circle h in
    record { turns = turns; there = omega (arith, ints, is); below = below }

-- Numbers below a circle that differ by full circles are one.
pub no_circle : (circle x y : ℕ) (k : ℤ) → x < circle → y < circle
    → pos x ≡ pos y +ℤ pos circle *ℤ k → x ≡ y
no_circle circle x y k hx hy e =
    let none = none_of circle k (omega (arith, ints)) (omega (arith, ints)) in
    let f : pos circle *ℤ k ≡ pos 0 = ap (λ z. pos circle *ℤ z) none ∙ omega (arith, ints) in
    omega (arith, ints)

-- There is one way round.
one_way : (circle : ℕ) (from to : ℤ) (a b : ℕ) → IsWayRound circle from to a
    → IsWayRound circle from to b → a ≡ b
one_way circle from to a b f g =
    let p = f.there in
    let q = g.there in
    no_circle circle a b (f.turns -ℤ g.turns) f.below g.below (simp products (omega (arith, ints)))

-- No angle needs an arc: its width is 0.
pub no_extent : (circle : ℕ) (angle : ℕ → ℤ) (start : ℕ) → IsExtent circle angle 0 start 0
no_extent circle angle start = record {
  held = λ i h. absurd (omega arith);
  narrowest = λ width h. omega arith;
}

-- The arc from one angle that holds one angle more is as wide as the longer way.
pub next_extent : (circle : ℕ) (angle : ℕ → ℤ) (count start extent way : ℕ)
    → IsExtent circle angle count start extent → IsWayRound circle (angle start) (angle count) way
    → IsExtent circle angle (count + 1) start (max extent way)
next_extent circle angle count start extent way e w = record {
  held = below_more _ count (λ i h other v. let a = e.held i h other v in omega arith)
      (λ other v. let a = one_way circle (angle start) (angle count) other way v w in omega arith);
  narrowest = λ width all.
      let a = e.narrowest width (λ i h. all i (omega arith)) in
      let b = all count (omega arith) way w in
      omega (arith, a, b);
}

-- From one angle on the circle onward to another that is not below it.
pub onward_is : (circle from to way : ℕ) → to < circle → way + from ≡ to
    → IsWayRound circle (pos from) (pos to) way
onward_is circle from to way h e =
    record { turns = pos 0; there = omega (arith, ints); below = omega arith }

-- And to another that is below it.
pub past_zero_is : (circle from to way : ℕ) → to < from → way + from ≡ to + circle
    → IsWayRound circle (pos from) (pos to) way
past_zero_is circle from to way h e =
    record { turns = pos 1; there = omega (arith, ints); below = omega arith }

-- What is on the circle is the way round to it from 0.
pub on_circle_is : (circle : ℕ) (x : ℤ) (way : ℕ) → way < circle → pos way ≡ x
    → IsWayRound circle (pos 0) x way
on_circle_is circle x way h e =
    record { turns = pos 0; there = omega (arith, ints); below = h }

-- The way round between two angles is that between what is left of them on the circle.
pub way_between : (circle : ℕ) (a b : ℤ) (from to way : ℕ) → IsWayRound circle (pos 0) a from
    → IsWayRound circle (pos 0) b to → IsWayRound circle (pos from) (pos to) way
    → IsWayRound circle a b way
way_between circle a b from to way f t w =
    let p = f.there in
    let q = t.there in
    let r = w.there in
    record {
      turns = (t.turns +ℤ w.turns) -ℤ f.turns;
      there = simp products (omega (arith, ints));
      below = w.below;
    }

-- The way round from a direction to a stated one on the circle is their difference on the circle.
pub difference_is : (d x on way : ℕ) (a s : ℤ) → pos x ≡ pos 405_000 *ℤ a
    → IsWayRound 32_400_000_000_000 (pos 0) s on
    → IsWayRound (d * 32_400_000_000_000) (pos x) (pos (d * on)) way
    → IsWayRound (d * 32_400_000_000_000) (pos 0) (pos d *ℤ s -ℤ pos 405_000 *ℤ a) way
difference_is d x on way a s is o w =
    let there = w.there in
    let times = simp products at (ap (λ z. pos d *ℤ z) o.there) in
    record {
      turns = o.turns +ℤ w.turns;
      there = simp products (omega (arith, ints));
      below = w.below;
    }
