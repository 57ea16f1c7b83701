-- The narrowest arc: some arc as narrow as any begins at one of the angles.
use Rattle.std.proofs.Common.{◌≡◌, ◌⊎◌, inl, inr, ℕ, zero, suc, ◌+◌, ◌-◌, ◌*◌, ◌/◌, ◌≤◌, ◌<◌, ◌≤ℤ◌}
use Rattle.std.proofs.Common.{◌+ℤ◌, ℤ, pos, negsuc, arith, ap, below_more, refl, subst}
use Rattle.std.specs.Prelude.{min}
use Rattle.std.proofs.Math.IntN.{◌*ℤ◌, ◌-ℤ◌}
use Rattle.std.proofs.Math.Nat.{le-div_iff_mul-le, mul-le-mul_left, mul-lt-mul_of_pos_left}
use Rattle.std.proofs.lemmas.Int.{by_lt_z, ints}
use native.Mathlib.Decide.{dec_le}
use Rattle.exact_adjustment.proofs.Products.{products}
use Rattle.directions_apart.specs.Arcs.{IsArc, IsExtent, IsSpread}
use Rattle.directions_apart.specs.Bounded.{IsNoWider}
use Rattle.directions_apart.proofs.ArcLaws.{way_round_is}

-- One of some numbers is the lowest.
record IsLowest (f : ℕ → ℤ) (count place : ℕ) : Type 0 where
  pub inside : place < count
  pub low : (i : ℕ) → i < count → f place ≤ℤ f i

lowest : (f : ℕ → ℤ) (count : ℕ) → (place : ℕ) × IsLowest f (suc count) place
lowest f zero = (
  0,
  record {
    inside = omega arith;
    low = λ i h. let e : 0 ≡ i = omega arith in subst (λ n. f 0 ≤ℤ f n) e (omega (arith, ints));
  },
)
lowest f (suc count) =
    let (place, l) = lowest f count in
    by_lt_z (f place) (f (suc count))
    (λ lt. (
      place,
      record {
        inside = omega (arith, l.inside);
        low = λ i h. below_more (λ n. f place ≤ℤ f n) (suc count) l.low (omega (arith, ints)) i
            (omega arith);
      },
    ))
    (λ le. (
      suc count,
      record {
        inside = omega arith;
        low = λ i h. below_more (λ n. f (suc count) ≤ℤ f n) (suc count)
            (λ k a. let c = l.low k a in omega (arith, ints)) (omega (arith, ints)) i (omega arith);
      },
    ))

-- What is less than a circle onward, but for full circles, is the way round itself.
within_way : (circle parts width way : ℕ) (k : ℤ) → 1 ≤ parts → way < circle
    → width < parts * circle
    → pos 0 ≤ℤ (pos parts *ℤ (pos way +ℤ pos circle *ℤ k))
    → (pos parts *ℤ (pos way +ℤ pos circle *ℤ k)) ≤ℤ pos width → parts * way ≤ width
within_way circle parts width way (pos n) some below narrow low high =
    let f = simp products at high in omega (arith, ints)
within_way circle parts width way (negsuc n) some below narrow low high =
    let e = simp products at low in
    let f : parts * way < parts * circle = mul-lt-mul_of_pos_left below some in
    absurd (omega (arith, ints))

module _ (circle : ℕ) (angle : ℕ → ℤ) where
  -- An extent is the width of an arc.
  extent_arc : (count start extent : ℕ) → 1 ≤ circle → IsExtent circle angle count start extent
      → IsArc circle angle count 1 extent
  extent_arc count start extent some e =
      let to = λ (i : ℕ). way_round_is circle (angle start) (angle i) some in
      record {
        start = angle start;
        circles = λ i. (to i).turns;
        low = λ i h. let t = (to i).there in omega (arith, ints);
        high = λ i h. let t = (to i).there in let l = e.held i h _ (to i) in omega (arith, ints);
      }

  -- An extent is less than a circle.
  extent_below : (count start extent : ℕ) → 1 ≤ circle
      → IsExtent circle angle count start extent → extent < circle
  extent_below count start extent some e =
      let f = e.narrowest (circle - 1) (λ i h size w. omega (arith, w.below)) in omega (arith, f)

  -- The narrowest of the arcs from the first so many angles, or a circle where there is none yet.
  pub record IsNarrowest (count starts narrowest : ℕ) : Type 0 where
    pub reached : (narrowest ≡ circle) ⊎ IsArc circle angle count 1 narrowest
    pub below : 1 ≤ starts → narrowest < circle
    pub least : (j : ℕ) → j < starts → IsNoWider circle angle count j narrowest

  -- Before any start it is the circle.
  pub no_start : (count : ℕ) → IsNarrowest count 0 circle
  no_start count = record {
    reached = inl refl;
    below = λ h. absurd (omega (arith, h));
    least = λ j h. absurd (omega (arith, h));
  }

  -- With one start more it is the narrower of what it was and of the arc from that start.
  pub next_start : (count starts narrowest extent : ℕ) → 1 ≤ circle
      → IsNarrowest count starts narrowest → IsExtent circle angle count starts extent
      → IsNarrowest count (starts + 1) (min narrowest extent)
  next_start count starts narrowest extent some n e =
      let short = extent_below count starts extent some e in
      record {
        reached = by (dec_le extent narrowest) n.reached;
        below = λ h. omega (arith, short);
        least = below_more _ starts
            (λ j h width all. let a = n.least j h width all in omega arith)
            (λ width all. let a = e.narrowest width all in omega arith);
      }
    where
      by : Dec (extent ≤ narrowest) → (narrowest ≡ circle) ⊎ IsArc circle angle count 1 narrowest
          → (min narrowest extent ≡ circle) ⊎ IsArc circle angle count 1 (min narrowest extent)
      by (yes h) before = let m : min narrowest extent ≡ extent = omega arith in
          inr (rw m (extent_arc count starts extent some e))
      by (no h) (inr before) = let m : min narrowest extent ≡ narrowest = omega arith in
          inr (rw m before)
      by (no h) (inl whole) = inl (omega arith)

  -- With a start more from which no arc is narrower it is what it was.
  pub wide_start : (count starts narrowest : ℕ) → 1 ≤ circle
      → IsNarrowest count starts narrowest → IsNoWider circle angle count starts narrowest
      → IsNarrowest count (starts + 1) narrowest
  wide_start count starts narrowest some n wide =
      let below = wide (circle - 1) (λ i h way w. omega (arith, w.below)) in
      record {
        reached = n.reached;
        below = λ h. omega (arith, below);
        least = below_more _ starts n.least wide;
      }

  -- The narrowest arc from any of the angles is the narrowest of all arcs that hold them.
  pub all_starts : (count narrowest : ℕ) → 1 ≤ count → IsNarrowest count count narrowest
      → IsSpread circle angle count narrowest
  all_starts zero narrowest some n = absurd (omega arith)
  all_starts (suc count) narrowest some n = by n.reached
    where
      narrow : (parts width : ℕ) → 1 ≤ parts → IsArc circle angle (suc count) parts width
          → Dec (parts * circle ≤ width) → parts * narrowest ≤ width
      narrow parts width each a (yes h) =
          let l : narrowest ≤ circle = omega (arith, n.below some) in
          omega (arith, mul-le-mul_left parts l)
      narrow parts width each a (no h) =
          let (j, l) = lowest (λ i. pos parts *ℤ (angle i +ℤ pos circle *ℤ a.circles i)) count in
          let most = n.least j l.inside (width / parts) (λ i inside size w.
          let there = simp products at (ap (λ z. pos parts *ℤ z) w.there) in
          let start = simp products at (a.low j l.inside) in
          let low = simp products at (l.low i inside) in
          let high = simp products at (a.high i inside) in
          let within = within_way circle parts width size (a.circles i -ℤ w.turns -ℤ a.circles j)
          each w.below (omega (arith, h)) (simp products (omega (arith, ints)))
          (simp products (omega (arith, ints))) in
          (le-div_iff_mul-le each).1 (omega (arith, within))) in
          let e = (le-div_iff_mul-le each).0 most in
          omega (arith, e)

      by : (narrowest ≡ circle) ⊎ IsArc circle angle (suc count) 1 narrowest
          → IsSpread circle angle (suc count) narrowest
      by (inl whole) = absurd (omega (arith, n.below some))
      by (inr arc) = record {
        held = arc;
        narrowest = λ parts width each a.
            narrow parts width each a (dec_le (parts * circle) width);
      }
