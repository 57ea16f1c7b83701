-- Arcs of angles that are the same but for one rotation, full circles and the unit.
use Rattle.std.proofs.Common.{◌≡◌, ℕ, zero, suc, ◌+◌, ◌*◌, ◌/◌, ◌≤◌, ◌<◌, ◌≤ℤ◌, ◌+ℤ◌, ℤ, pos}
use Rattle.std.proofs.Common.{negsuc}
use Rattle.std.proofs.Common.{arith, ap, sym, subst, ◌∙◌}
use Rattle.std.specs.Prelude.{max}
use Rattle.std.specs.Int.{int_rem_euclid}
use Rattle.std.specs.Int.RustNames.{unsigned_abs}
use Rattle.std.proofs.Math.IntN.{◌*ℤ◌, ◌-ℤ◌}
use Rattle.std.proofs.Math.Nat.{le-div_iff_mul-le, le_of_mul-le-mul_left, mul-le-mul_left}
use Rattle.std.proofs.Math.Nat.{mul-le-mul, mul-lt-mul_of_pos_left}
use Rattle.std.proofs.lemmas.Int.{ints}
use Rattle.adjust_kernel.proofs.Ring.{num, ◌⊕◌, ◌⊖◌, ◌⊗◌, same_value}
use Rattle.directions_apart.specs.Arcs.{IsArc, IsExtent, IsSpread, IsWayRound}
use Rattle.directions_apart.proofs.ArcLaws.{next_extent, no_circle, no_extent, way_round_is}
use Rattle.station_differences.specs.BestArcs.{IsBestArc}

-- Angles over two denominators, d and e, are the same but for one rotation and full circles.
pub record AreSame (circle other : ℕ) (f g : ℕ → ℤ) (count d e : ℕ) : Type 0 where
  pub some : 1 ≤ d
  pub others : 1 ≤ e
  pub positive : 1 ≤ circle
  pub other_positive : 1 ≤ other
  pub circles : d * other ≡ e * circle
  pub rotation : ℤ
  pub turns : ℕ → ℤ
  pub angles : (i : ℕ) → i < count
      → pos d *ℤ g i ≡ (pos e *ℤ f i +ℤ rotation) +ℤ pos (e * circle) *ℤ turns i

turned_back : (m : ℕ) (x y r t : ℤ) → x ≡ (y +ℤ r) +ℤ pos m *ℤ t
    → y ≡ (x +ℤ (pos 0 -ℤ r)) +ℤ pos m *ℤ (pos 0 -ℤ t)
turned_back m x y r t is =
    let e : pos m *ℤ (pos 0 -ℤ t) ≡ pos 0 -ℤ pos m *ℤ t =
    same_value (num (pos m) ⊗ (num (pos 0) ⊖ num t)) (num (pos 0) ⊖ num (pos m) ⊗ num t)
    (omega arith) in
    omega (arith, ints, is, e)

pub same_back : (circle other : ℕ) (f g : ℕ → ℤ) (count d e : ℕ)
    → AreSame circle other f g count d e → AreSame other circle g f count e d
same_back circle other f g count d e s = record {
  some = s.others;
  others = s.some;
  positive = s.other_positive;
  other_positive = s.positive;
  circles = sym s.circles;
  rotation = pos 0 -ℤ s.rotation;
  turns = λ i. pos 0 -ℤ s.turns i;
  angles = λ i h. turned_back (d * other) (pos d *ℤ g i) (pos e *ℤ f i) s.rotation (s.turns i)
      (subst (λ (m : ℕ). pos d *ℤ g i ≡ (pos e *ℤ f i +ℤ s.rotation) +ℤ pos m *ℤ s.turns i)
      (sym s.circles) (s.angles i h));
}

-- A way round, times a denominator.
times_way : (d circle way : ℕ) (a b t : ℤ) → a +ℤ pos way ≡ b +ℤ pos circle *ℤ t
    → pos d *ℤ a +ℤ pos (d * way) ≡ pos d *ℤ b +ℤ pos (d * circle) *ℤ t
times_way d circle way a b t is =
    same_value (num (pos d) ⊗ num a ⊕ num (pos (d * way))) (num (pos d) ⊗ (num a ⊕ num (pos way)))
    (omega arith)
    ∙ ap (λ z. pos d *ℤ z) is
    ∙ same_value (num (pos d) ⊗ (num b ⊕ num (pos circle) ⊗ num t))
    (num (pos d) ⊗ num b ⊕ num (pos (d * circle)) ⊗ num t) (omega arith)

apart_by_circles : (m x y : ℕ) (gi gj fi fj r ki kj s t : ℤ)
    → gi ≡ (fi +ℤ r) +ℤ pos m *ℤ ki → gj ≡ (fj +ℤ r) +ℤ pos m *ℤ kj
    → gi +ℤ pos x ≡ gj +ℤ pos m *ℤ s → fi +ℤ pos y ≡ fj +ℤ pos m *ℤ t
    → pos x ≡ pos y +ℤ pos m *ℤ (((kj -ℤ ki) +ℤ s) -ℤ t)
apart_by_circles m x y gi gj fi fj r ki kj s t a b p q =
    let e : pos m *ℤ (((kj -ℤ ki) +ℤ s) -ℤ t)
    ≡ ((pos m *ℤ kj -ℤ pos m *ℤ ki) +ℤ pos m *ℤ s) -ℤ pos m *ℤ t =
    same_value (num (pos m) ⊗ (((num kj ⊖ num ki) ⊕ num s) ⊖ num t))
    (((num (pos m) ⊗ num kj ⊖ num (pos m) ⊗ num ki) ⊕ num (pos m) ⊗ num s)
    ⊖ num (pos m) ⊗ num t) (omega arith) in
    omega (arith, ints, a, b, p, q, e)

-- The extent from one of the angles: there is one.
pub some_extent : (circle : ℕ) (angle : ℕ → ℤ) (count start : ℕ) → 1 ≤ circle
    → (extent : ℕ) × IsExtent circle angle count start extent
some_extent circle angle zero start some = (0, no_extent circle angle start)
some_extent circle angle (suc count) start some =
    let (extent, is) = some_extent circle angle count start some in
    let way = unsigned_abs (int_rem_euclid (angle count -ℤ angle start) (pos circle)) in
    let one_more : count + 1 ≡ suc count = omega arith in
    let next = next_extent circle angle count start extent way is
    (way_round_is circle (angle start) (angle count) some) in (
      max extent way,
      subst (λ (n : ℕ). IsExtent circle angle n start (max extent way)) one_more next,
    )

module _ (circle other : ℕ) (f g : ℕ → ℤ) (count d e : ℕ) (s : AreSame circle other f g count d e)
  where
    -- The way between two of them is the same fraction of a circle.
    pub same_way : (i j way its : ℕ) → i < count → j < count → IsWayRound circle (f i) (f j) way
        → IsWayRound other (g i) (g j) its → d * its ≡ e * way
    same_way i j way its hi hj w v =
        let below : e * way < e * circle = mul-lt-mul_of_pos_left w.below s.others in
        let its_below : d * its < d * other = mul-lt-mul_of_pos_left v.below s.some in
        let c = s.circles in
        no_circle (e * circle) (d * its) (e * way)
        (((s.turns j -ℤ s.turns i) +ℤ v.turns) -ℤ w.turns) (omega (arith, its_below, c)) below
        (apart_by_circles (e * circle) (d * its) (e * way) (pos d *ℤ g i) (pos d *ℤ g j)
        (pos e *ℤ f i) (pos e *ℤ f j) s.rotation (s.turns i) (s.turns j) v.turns w.turns
        (s.angles i hi) (s.angles j hj)
        (subst (λ (m : ℕ). pos d *ℤ g i +ℤ pos (d * its) ≡ pos d *ℤ g j +ℤ pos m *ℤ v.turns)
        s.circles (times_way d other its (g i) (g j) v.turns v.there))
        (times_way e circle way (f i) (f j) w.turns w.there))

    -- The way onward from one of the first angles to another.
    abbrev onward : (i j : ℕ) → ℕ
    onward i j = unsigned_abs (int_rem_euclid (f j -ℤ f i) (pos circle))

    with_its : (i j its : ℕ) → i < count → j < count → IsWayRound other (g i) (g j) its
        → d * its ≡ e * onward i j
    with_its i j its hi hj v =
        same_way i j (onward i j) its hi hj (way_round_is circle (f i) (f j) s.positive) v

    -- The extent is no longer.
    pub no_longer : (start extent its : ℕ) → start < count → IsExtent circle f count start extent
        → IsExtent other g count start its → d * its ≤ e * extent
    no_longer start extent its inside w v =
        let most : its ≤ e * extent / d = v.narrowest (e * extent / d) each in
        let whole : its * d ≤ e * extent = (le-div_iff_mul-le s.some).0 most in
        omega (arith, whole)
      where
        each : (i : ℕ) → i < count → (way : ℕ) → IsWayRound other (g start) (g i) way
            → way ≤ e * extent / d
        each i h way its_way =
            let same = with_its start i way inside h its_way in
            let short : onward start i ≤ extent =
            w.held i h (onward start i) (way_round_is circle (f start) (f i) s.positive) in
            let more : e * onward start i ≤ e * extent = mul-le-mul_left e short in
            (le-div_iff_mul-le s.some).1 (omega (arith, same, more))

    -- What is the extent of the one, is that of the other.
    pub same_extent : (start extent its : ℕ) → start < count → d * its ≡ e * extent
        → IsExtent circle f count start extent → IsExtent other g count start its
    same_extent start extent its inside same w = record {
      held = λ i h way v.
          (let here = with_its start i way inside h v in
          let short : onward start i ≤ extent =
          w.held i h (onward start i) (way_round_is circle (f start) (f i) s.positive) in
          let more : e * onward start i ≤ e * extent = mul-le-mul_left e short in
          le_of_mul-le-mul_left (omega (arith, here, more, same)) s.some);
      narrowest = λ width all.
          (let most : extent ≤ d * width / e = w.narrowest (d * width / e) (each width all) in
          let whole : extent * e ≤ d * width = (le-div_iff_mul-le s.others).0 most in
          le_of_mul-le-mul_left (omega (arith, whole, same)) s.some);
    }
      where
        each : (width : ℕ) → ((i : ℕ) → i < count → (way : ℕ)
            → IsWayRound other (g start) (g i) way → way ≤ width)
            → (i : ℕ) → i < count → (way : ℕ) → IsWayRound circle (f start) (f i) way
            → way ≤ d * width / e
        each width all i h way v =
            let its_way = unsigned_abs (int_rem_euclid (g i -ℤ g start) (pos other)) in
            let is = way_round_is other (g start) (g i) s.other_positive in
            let here = same_way start i way its_way inside h v is in
            let more : d * its_way ≤ d * width = mul-le-mul_left d (all i h its_way is) in
            (le-div_iff_mul-le s.others).1 (omega (arith, here, more))

module _ (circle : ℕ) (angle : ℕ → ℤ) (count start extent : ℕ) (some : 1 ≤ circle)
    (x : IsExtent circle angle count start extent) where
  -- The way onward from the first of them to each.
  abbrev its_way : ℕ → ℕ
  its_way i = unsigned_abs (int_rem_euclid (angle i -ℤ angle start) (pos circle))

  its : (i : ℕ) → IsWayRound circle (angle start) (angle i) (its_way i)
  its i = way_round_is circle (angle start) (angle i) some

  in_arc : (i : ℕ) → i < count
      → (angle start ≤ℤ (pos 1 *ℤ (angle i +ℤ pos circle *ℤ (its i).turns)))
      × ((pos 1 *ℤ (angle i +ℤ pos circle *ℤ (its i).turns)) ≤ℤ (angle start +ℤ pos extent))
  in_arc i h =
      let there = (its i).there in
      let once : pos 1 *ℤ (angle i +ℤ pos circle *ℤ (its i).turns)
      ≡ angle i +ℤ pos circle *ℤ (its i).turns =
      same_value (num (pos 1) ⊗ (num (angle i) ⊕ num (pos circle) ⊗ num (its i).turns))
      (num (angle i) ⊕ num (pos circle) ⊗ num (its i).turns) (omega arith) in
      let short = x.held i h (its_way i) (its i) in
      (omega (arith, ints, there, once), omega (arith, ints, there, once, short))

  -- An extent is the width of an arc.
  extent_arc : IsArc circle angle count 1 extent
  extent_arc = record {
    start = angle start;
    circles = λ i. (its i).turns;
    low = λ i h. (in_arc i h).0;
    high = λ i h. (in_arc i h).1;
  }

-- An order of numbers is that of their multiples.
times_order : (d : ℕ) (a b : ℤ) → a ≤ℤ b → (pos d *ℤ a) ≤ℤ (pos d *ℤ b)
times_order d a b h = by (b -ℤ a) (omega (arith, ints))
  where
    by : (z : ℤ) → b ≡ a +ℤ z → (pos d *ℤ a) ≤ℤ (pos d *ℤ b)
    by (pos n) is =
        let more : pos d *ℤ b ≡ pos d *ℤ a +ℤ pos (d * n) =
        ap (λ z. pos d *ℤ z) is
        ∙ same_value (num (pos d) ⊗ (num a ⊕ num (pos n))) (num (pos d) ⊗ num a ⊕ num (pos (d * n)))
        (omega arith) in
        omega (arith, ints, more)
    by (negsuc n) is = absurd (omega (arith, ints, is, h))

-- An angle in parts of an arc over one denominator, as one over the other.
in_parts : (p d e circle other : ℕ) (gi fi r k t : ℤ) → d * other ≡ e * circle
    → pos d *ℤ gi ≡ (pos e *ℤ fi +ℤ r) +ℤ pos (e * circle) *ℤ t
    → pos d *ℤ (pos p *ℤ (gi +ℤ pos other *ℤ k))
    ≡ pos (p * e) *ℤ (fi +ℤ pos circle *ℤ (t +ℤ k)) +ℤ pos p *ℤ r
in_parts p d e circle other gi fi r k t same is =
    same_value (num (pos d) ⊗ (num (pos p) ⊗ (num gi ⊕ num (pos other) ⊗ num k)))
    (num (pos p) ⊗ (num (pos d) ⊗ num gi) ⊕ num (pos (p * (d * other))) ⊗ num k)
    (omega arith)
    ∙ ap (λ (m : ℕ). pos p *ℤ (pos d *ℤ gi) +ℤ pos (p * m) *ℤ k) same
    ∙ ap (λ z. pos p *ℤ z +ℤ pos (p * (e * circle)) *ℤ k) is
    ∙ same_value
    (num (pos p) ⊗ ((num (pos e) ⊗ num fi ⊕ num r) ⊕ num (pos (e * circle)) ⊗ num t)
    ⊕ num (pos (p * (e * circle))) ⊗ num k)
    (num (pos (p * e)) ⊗ (num fi ⊕ num (pos circle) ⊗ (num t ⊕ num k)) ⊕ num (pos p) ⊗ num r)
    (omega arith)

module _ (circle other : ℕ) (f g : ℕ → ℤ) (count d e : ℕ) (s : AreSame circle other f g count d e)
  where
    -- An arc that holds the one holds the other, with more parts.
    arc_in_parts : (parts width : ℕ) → IsArc other g count parts width
        → IsArc circle f count (parts * e) (d * width)
    arc_in_parts parts width a = record {
      start = pos d *ℤ a.start -ℤ pos parts *ℤ s.rotation;
      circles = λ i. s.turns i +ℤ a.circles i;
      low = λ i h.
          (let is = here i h in
          let order = times_order d a.start (pos parts *ℤ (g i +ℤ pos other *ℤ a.circles i))
          (a.low i h) in
          omega (arith, ints, is, order));
      high = λ i h.
          (let is = here i h in
          let order = times_order d (pos parts *ℤ (g i +ℤ pos other *ℤ a.circles i))
          (a.start +ℤ pos width) (a.high i h) in
          let sum : pos d *ℤ (a.start +ℤ pos width) ≡ pos d *ℤ a.start +ℤ pos (d * width) =
          same_value (num (pos d) ⊗ (num a.start ⊕ num (pos width)))
          (num (pos d) ⊗ num a.start ⊕ num (pos (d * width))) (omega arith) in
          omega (arith, ints, is, order, sum));
    }
      where
        here : (i : ℕ) → i < count
            → pos d *ℤ (pos parts *ℤ (g i +ℤ pos other *ℤ a.circles i))
            ≡ pos (parts * e) *ℤ (f i +ℤ pos circle *ℤ (s.turns i +ℤ a.circles i))
            +ℤ pos parts *ℤ s.rotation
        here i h =
            in_parts parts d e circle other (g i) (f i) s.rotation (a.circles i) (s.turns i)
            s.circles
            (s.angles i h)

    -- So a spread of the one is one of the other, where an arc from one of the angles is as wide.
    same_spread : (start spread its : ℕ) → d * its ≡ e * spread → IsExtent other g count start its
        → IsSpread circle f count spread → IsSpread other g count its
    same_spread start spread its same x is = record {
      held = extent_arc other g count start its s.other_positive x;
      narrowest = λ parts width some a.
          (let more : 1 * 1 ≤ parts * e = mul-le-mul some s.others in
          let least : parts * e * spread ≤ d * width =
          is.narrowest (parts * e) (d * width) (omega (arith, more)) (arc_in_parts parts width a) in
          let times : parts * (d * its) ≡ parts * (e * spread) = ap (λ n. parts * n) same in
          let scaled : d * (parts * its) ≤ d * width = omega (arith, least, times) in
          le_of_mul-le-mul_left scaled s.some);
    }

-- The best arc of the one begins at the same place as that of the other, and is as wide.
pub same_best : (circle other : ℕ) (f g : ℕ → ℤ) (count d e start spread : ℕ)
    → AreSame circle other f g count d e → IsBestArc circle f count start spread
    → (its : ℕ) × (d * its ≡ e * spread) × IsBestArc other g count start its
same_best circle other f g count d e start spread s b =
    let inside = b.first.inside in
    let back = same_back circle other f g count d e s in
    let (its, x) = some_extent other g count start s.other_positive in
    let most = no_longer circle other f g count d e s start spread its inside b.first.here x in
    let least = no_longer other circle g f count e d back start its spread inside x b.first.here in
    let same : d * its ≡ e * spread = omega (arith, most, least) in (
      its,
      same,
      record {
        is_spread = same_spread circle other f g count d e s start spread its same x b.is_spread;
        first = record {
          inside = inside;
          here = x;
          before = λ m h v. b.first.before m h
              (same_extent other circle g f count e d back m its spread
              (omega (arith, h, inside)) (sym same) v);
        };
      },
    )
