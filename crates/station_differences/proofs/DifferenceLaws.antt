-- The differences of stated directions from a choice: by the angles on the circle, by every choice
-- that is the same but for turns and a rotation, and that they are one list.
use Rattle.std.proofs.Common.{◌≡◌, ℕ, suc, ◌+◌, ◌-◌, ◌*◌, ◌/◌, ◌%◌, ◌≤◌, ◌<◌, ◌+ℤ◌, ℤ, pos}
use Rattle.std.proofs.Common.{All, List, [], ◌∷◌, length, get_or, arith, ap, refl, sym}
use Rattle.std.proofs.Common.{subst, ◌∙◌}
use Rattle.std.specs.Int.{int_rem_euclid}
use Rattle.std.specs.Int.RustNames.{unsigned_abs}
use Rattle.std.proofs.Math.IntN.{◌*ℤ◌, ◌-ℤ◌}
use Rattle.std.proofs.Math.Nat.{mul-le-mul_right}
use Rattle.std.proofs.lemmas.Int.{ints}
use Rattle.std.proofs.lemmas.List.{get_or_default}
use native.Mathlib.Decide.{dec_le}
use Rattle.adjust_kernel.specs.Firsts.{IsFirstWhere}
use Rattle.adjust_kernel.specs.Residuals.{Choice}
use Rattle.adjust_kernel.specs.Within.{IsWithin}
use Rattle.adjust_kernel.proofs.Ring.{num, ◌⊕◌, ◌⊖◌, ◌⊗◌, same_value}
use Rattle.directions_apart.specs.Apart.{IsApart, IsHalfSpread, IsRoundedUp, circle_of, difference}
use Rattle.directions_apart.specs.Arcs.{IsExtent, IsSpread, IsWayRound}
use Rattle.directions_apart.proofs.ApartLaws.{AreTurned, half_spread_is_apart}
use Rattle.directions_apart.proofs.ArcLaws.{no_circle, way_between, way_round_is}
use Rattle.exact_adjustment.proofs.SideLaws.{same_inside}
use Rattle.station_differences.specs.Angles.{AreAngles, angle_of}
use Rattle.station_differences.specs.BestArcs.{IsBestArc}
use Rattle.station_differences.specs.Differences.{AreDifferences, IsFromMiddle}
use Rattle.station_differences.specs.Differences.{IsRoundedFromMiddle}
use Rattle.station_differences.proofs.MiddleLaws.{one_rounding, same_rounding, within_half}
use Rattle.station_differences.proofs.SameArcs.{AreSame, same_best, same_way}

-- The way round is one number.
pub one_way : (circle : ℕ) (from to : ℤ) (a b : ℕ) → IsWayRound circle from to a
    → IsWayRound circle from to b → a ≡ b
one_way circle from to a b f g =
    let e : pos circle *ℤ (f.turns -ℤ g.turns) ≡ pos circle *ℤ f.turns -ℤ pos circle *ℤ g.turns =
    same_value (num (pos circle) ⊗ (num f.turns ⊖ num g.turns))
    (num (pos circle) ⊗ num f.turns ⊖ num (pos circle) ⊗ num g.turns) (omega arith) in
    let p = f.there in
    let q = g.there in
    no_circle circle a b (f.turns -ℤ g.turns) f.below g.below (omega (arith, ints, p, q, e))

-- The way between the angles at two places of a list.
pub between_places : (circle : ℕ) (angles : List ℕ) (i j from to way : ℕ) → i < length angles
    → j < length angles → from ≡ get_or angles i from → to ≡ get_or angles j to
    → IsWayRound circle (pos from) (pos to) way
    → IsWayRound circle (angle_of angles i) (angle_of angles j) way
between_places circle angles i j from to way hi hj e f w =
    let first : from ≡ get_or angles i 0 = e ∙ same_inside angles i from 0 hi in
    let second : to ≡ get_or angles j 0 = f ∙ same_inside angles j to 0 hj in
    subst (λ (n : ℕ). IsWayRound circle (pos n) (angle_of angles j) way) first
    (subst (λ (n : ℕ). IsWayRound circle (pos from) (pos n) way) second w)

-- Angles on the circle are below it.
pub all_below : (c : Choice) (stated : ℕ → ℤ) (targets : ℕ) (angles : List ℕ)
    → AreAngles c stated targets angles → All (λ angle. angle < circle_of c) angles
all_below c stated targets angles a = λ t other h.
    (let count = a.count in
    subst (λ (d : ℕ). d < circle_of c) (get_or_default angles t 0 other h)
    (a.each t (omega (arith, h, count))).below)

-- An angle on the circle and what it is the way to.
on_circle_same : (circle : ℕ) (x y : ℤ) (on : ℕ) (t : ℤ) → y ≡ pos on
    → pos 0 +ℤ pos on ≡ x +ℤ pos circle *ℤ t
    → pos 1 *ℤ x ≡ (pos 1 *ℤ y +ℤ pos 0) +ℤ pos (1 * circle) *ℤ (pos 0 -ℤ t)
on_circle_same circle x y on t is there =
    let a : pos 1 *ℤ x ≡ x = same_value (num (pos 1) ⊗ num x) (num x) (omega arith) in
    let b : (pos 1 *ℤ y +ℤ pos 0) +ℤ pos (1 * circle) *ℤ (pos 0 -ℤ t)
    ≡ y -ℤ pos circle *ℤ t =
    same_value
    ((num (pos 1) ⊗ num y ⊕ num (pos 0)) ⊕ num (pos (1 * circle)) ⊗ (num (pos 0) ⊖ num t))
    (num y ⊖ num (pos circle) ⊗ num t) (omega arith) in
    omega (arith, ints, a, b, is, there)

module _ (c : Choice) (stated : ℕ → ℤ) (targets : ℕ) (angles : List ℕ)
    (a : AreAngles c stated targets angles) where
  -- The full circles of a difference.
  abbrev turns_of : (i : ℕ) → Dec (suc i ≤ targets) → ℤ
  turns_of i (yes h) = (a.each i h).turns
  turns_of i (no h) = pos 0

  on_circle : (i : ℕ) → i < targets → (d : Dec (suc i ≤ targets))
      → pos 1 *ℤ difference c stated i
      ≡ (pos 1 *ℤ angle_of angles i +ℤ pos 0)
      +ℤ pos (1 * circle_of c) *ℤ (pos 0 -ℤ turns_of i d)
  on_circle i h (yes e) =
      on_circle_same (circle_of c) (difference c stated i) (angle_of angles i)
      (get_or angles i 0) (a.each i e).turns refl (a.each i e).there
  on_circle i h (no e) = absurd (omega (arith, h, e))

  -- The differences are the angles on the circle but for full circles.
  are_angles : 1 ≤ c.denominator
      → AreSame (circle_of c) (circle_of c) (angle_of angles) (difference c stated) targets 1 1
  are_angles some = record {
    some = omega arith;
    others = omega arith;
    positive = omega (arith, some);
    other_positive = omega (arith, some);
    circles = refl;
    rotation = pos 0;
    turns = λ i. pos 0 -ℤ turns_of i (dec_le (suc i) targets);
    angles = λ i h. on_circle i h (dec_le (suc i) targets);
  }

-- The best arc of the angles, and the differences from its middle, are those of the differences.
pub by_angles : (c : Choice) (stated : ℕ → ℤ) (targets start spread : ℕ) (angles : List ℕ)
    (differences : List ℤ) → 1 ≤ c.denominator → AreAngles c stated targets angles
    → IsBestArc (circle_of c) (angle_of angles) targets start spread
    → length differences ≡ targets
    → ((t : ℕ) → t < targets → IsFromMiddle c.denominator (circle_of c) (angle_of angles) start
    spread t (get_or differences t (pos 0)))
    → AreDifferences targets c stated differences
by_angles c stated targets start spread angles differences some a best count each =
    let same = are_angles c stated targets angles a some in
    let (its, is, b) = same_best (circle_of c) (circle_of c) (angle_of angles) (difference c stated)
    targets 1 1 start spread same best in
    let spread_is : its ≡ spread = omega (arith, is) in
    record {
      start = start;
      spread = spread;
      best = subst (λ n. IsBestArc (circle_of c) (difference c stated) targets start n) spread_is b;
      count = count;
      each = λ t h. (let m = each t h in record {
        way = m.way;
        onward = way_between (circle_of c) (difference c stated start) (difference c stated t)
            (get_or angles start 0) (get_or angles t 0) m.way (a.each start best.first.inside)
            (a.each t h) m.onward;
        rounded = m.rounded;
      });
    }

-- The differences from another choice, by those from the one.
from_other : (d e : ℕ) (s a b t r : ℤ)
    → pos e *ℤ a -ℤ pos d *ℤ (b -ℤ pos (e * 80_000_000) *ℤ t) ≡ r
    → pos d *ℤ (pos e *ℤ s -ℤ pos 405_000 *ℤ b)
    ≡ (pos e *ℤ (pos d *ℤ s -ℤ pos 405_000 *ℤ a) +ℤ pos 405_000 *ℤ r)
    +ℤ pos (e * (d * 32_400_000_000_000)) *ℤ (pos 0 -ℤ t)
from_other d e s a b t r is =
    let d' = num (pos d) in
    let e' = num (pos e) in
    same_value (d' ⊗ (e' ⊗ num s ⊖ num (pos 405_000) ⊗ num b))
    ((e' ⊗ (d' ⊗ num s ⊖ num (pos 405_000) ⊗ num a)
    ⊕ num (pos 405_000) ⊗ (e' ⊗ num a ⊖ d' ⊗ (num b ⊖ num (pos (e * 80_000_000)) ⊗ num t)))
    ⊕ num (pos (e * (d * 32_400_000_000_000))) ⊗ (num (pos 0) ⊖ num t))
    (omega arith)
    ∙ ap (λ z. (pos e *ℤ (pos d *ℤ s -ℤ pos 405_000 *ℤ a) +ℤ pos 405_000 *ℤ z)
    +ℤ pos (e * (d * 32_400_000_000_000)) *ℤ (pos 0 -ℤ t)) is

are_same : (targets : ℕ) (c other : Choice) (stated : ℕ → ℤ) → 1 ≤ c.denominator
    → 1 ≤ other.denominator → AreTurned targets c other
    → AreSame (circle_of c) (circle_of other) (difference c stated) (difference other stated)
    targets c.denominator other.denominator
are_same targets c other stated some others s = record {
  some = some;
  others = others;
  positive = omega (arith, some);
  other_positive = omega (arith, others);
  circles = omega arith;
  rotation = pos 405_000 *ℤ s.rotation;
  turns = λ t. pos 0 -ℤ s.turns t;
  angles = λ t h. from_other c.denominator other.denominator (stated t) (c.direction t)
      (other.direction t) (s.turns t) s.rotation (s.directions t h);
}

-- The differences from one choice are those from the other.
pub as_differences : (targets : ℕ) (c other : Choice) (stated : ℕ → ℤ) (differences : List ℤ)
    → 1 ≤ c.denominator → 1 ≤ other.denominator → AreTurned targets c other
    → AreDifferences targets c stated differences → AreDifferences targets other stated differences
as_differences targets c other stated differences some others s are =
    let same = are_same targets c other stated some others s in
    let (its, is, best) = same_best (circle_of c) (circle_of other) (difference c stated)
    (difference other stated) targets c.denominator other.denominator are.start are.spread same
    are.best in
    record {
      start = are.start;
      spread = its;
      best = best;
      count = are.count;
      each = λ t h.
          (let m = are.each t h in
          let way = unsigned_abs (int_rem_euclid (difference other stated t
          -ℤ difference other stated are.start) (pos (circle_of other))) in
          let onward = way_round_is (circle_of other) (difference other stated are.start)
          (difference other stated t) (omega (arith, others)) in
          record {
            way = way;
            onward = onward;
            rounded = same_rounding c.denominator other.denominator m.way way are.spread its _ some
                others (same_way (circle_of c) (circle_of other) (difference c stated)
                (difference other stated) targets c.denominator other.denominator same are.start t
                m.way way are.best.first.inside h m.onward onward) is m.rounded;
          });
    }

no_turn : (circle : ℕ) (x y : ℤ) → x ≡ y
    → pos 1 *ℤ y ≡ (pos 1 *ℤ x +ℤ pos 0) +ℤ pos (1 * circle) *ℤ pos 0
no_turn circle x y is =
    ap (λ z. pos 1 *ℤ z) (sym is)
    ∙ same_value (num (pos 1) ⊗ num x)
    ((num (pos 1) ⊗ num x ⊕ num (pos 0)) ⊕ num (pos (1 * circle)) ⊗ num (pos 0)) (omega arith)

-- The same directions, stated in another way, have the same differences.
pub same_stated : (targets : ℕ) (c : Choice) (f g : ℕ → ℤ) (differences : List ℤ)
    → 1 ≤ c.denominator → ((t : ℕ) → t < targets → f t ≡ g t)
    → AreDifferences targets c f differences → AreDifferences targets c g differences
same_stated targets c f g differences some same are =
    let start = are.start in
    let inside : start < targets = are.best.first.inside in
    let there : (t : ℕ) → t < targets → difference c f t ≡ difference c g t =
    λ t h. ap (λ z. pos c.denominator *ℤ z -ℤ pos 405_000 *ℤ c.direction t) (same t h) in
    let sames : AreSame (circle_of c) (circle_of c) (difference c f) (difference c g) targets 1 1 =
    record {
      some = omega arith;
      others = omega arith;
      positive = omega (arith, some);
      other_positive = omega (arith, some);
      circles = refl;
      rotation = pos 0;
      turns = λ t. pos 0;
      angles = λ t h. no_turn (circle_of c) (difference c f t) (difference c g t) (there t h);
    } in
    let (its, is, best) = same_best (circle_of c) (circle_of c) (difference c f) (difference c g)
    targets 1 1 start are.spread sames are.best in
    let spread_is : its ≡ are.spread = omega (arith, is) in
    record {
      start = start;
      spread = are.spread;
      best = subst (λ (n : ℕ). IsBestArc (circle_of c) (difference c g) targets start n) spread_is
          best;
      count = are.count;
      each = λ t h.
          (let m = are.each t h in
          record {
            way = m.way;
            onward = subst (λ z. IsWayRound (circle_of c) z (difference c g t) m.way)
                (there start inside)
                (subst (λ z. IsWayRound (circle_of c) (difference c f start) z m.way) (there t h)
                m.onward);
            rounded = m.rounded;
          });
    }

one_spread : (circle : ℕ) (angle : ℕ → ℤ) (count a b : ℕ) → IsSpread circle angle count a
    → IsSpread circle angle count b → a ≡ b
one_spread circle angle count a b p q =
    let x = p.narrowest 1 b (omega arith) q.held in
    let y = q.narrowest 1 a (omega arith) p.held in
    omega (arith, x, y)

one_first : (P : ℕ → Type 0) (count a b : ℕ) → IsFirstWhere P count a → IsFirstWhere P count b
    → a ≡ b
one_first P count a b p q = by (dec_le (suc a) b) (dec_le (suc b) a)
  where
    by : Dec (suc a ≤ b) → Dec (suc b ≤ a) → a ≡ b
    by (yes h) other = absurd (q.before a h p.here)
    by (no h) (yes k) = absurd (p.before b k q.here)
    by (no h) (no k) = omega (arith, h, k)

-- Lists of a length are one where they have the same at each place.
same_lists : (xs ys : List ℤ) → length xs ≡ length ys
    → ((t : ℕ) → t < length xs → get_or xs t (pos 0) ≡ get_or ys t (pos 0)) → xs ≡ ys
same_lists [] [] h each = refl
same_lists [] (y ∷ ys) h each = absurd (omega (arith, h))
same_lists (x ∷ xs) [] h each = absurd (omega (arith, h))
same_lists (x ∷ xs) (y ∷ ys) h each =
    let first : x ≡ y = each 0 (omega arith) in
    let rest : xs ≡ ys =
    same_lists xs ys (omega (arith, h)) (λ t inside. each (suc t) (omega (arith, inside))) in
    (λ i. first i ∷ rest i)

module _ (targets : ℕ) (c : Choice) (stated : ℕ → ℤ) (a b : List ℤ)
    (p : AreDifferences targets c stated a) (q : AreDifferences targets c stated b) where
  one_start : p.spread ≡ q.spread → p.start ≡ q.start
  one_start spread =
      one_first (λ i. IsExtent (circle_of c) (difference c stated) targets i q.spread) targets
      p.start q.start
      (subst (λ (n : ℕ). IsFirstWhere (λ i. IsExtent (circle_of c)
      (difference c stated) targets i n)
      targets p.start) spread p.best.first) q.best.first

  one_difference : (t : ℕ) → t < targets → p.spread ≡ q.spread → p.start ≡ q.start
      → get_or a t (pos 0) ≡ get_or b t (pos 0)
  one_difference t inside spread start =
      let m = p.each t inside in
      let n = q.each t inside in
      let way : m.way ≡ n.way =
      one_way (circle_of c) (difference c stated q.start) (difference c stated t) m.way n.way
      (subst (λ (s : ℕ). IsWayRound (circle_of c) (difference c stated s) (difference c stated t)
      m.way) start m.onward) n.onward in
      one_rounding c.denominator n.way q.spread (get_or a t (pos 0)) (get_or b t (pos 0))
      (subst (λ (w : ℕ). IsRoundedFromMiddle c.denominator w q.spread (get_or a t (pos 0))) way
      (subst (λ (s : ℕ). IsRoundedFromMiddle c.denominator m.way s (get_or a t (pos 0))) spread
      m.rounded)) n.rounded

  -- The differences of stated directions from a choice are one list.
  pub one_differences : a ≡ b
  one_differences =
      let count = p.count in
      let also = q.count in
      let spread = one_spread (circle_of c) (difference c stated) targets p.spread q.spread
      p.best.is_spread q.best.is_spread in
      same_lists a b (omega (arith, count, also))
      (λ t h. one_difference t (omega (arith, h, count)) spread (one_start spread))

-- The least whole number that is not below a fraction.
rounded_up : (n k : ℕ) → 1 ≤ k → IsRoundedUp n k ((n + (k - 1)) / k)
rounded_up n k some =
    let x = n + (k - 1) in
    let parts : k * (x / k) + x % k ≡ x = omega arith in
    let left : x % k < k = omega (arith, some) in
    record { not_below = omega (arith, parts, left, some); least = omega (arith, parts, some) }

-- Half the spread, rounded up: how far the directions are apart, where no number is off.
some_apart : (targets : ℕ) (c : Choice) (stated : ℕ → ℤ) (differences : List ℤ)
    → 1 ≤ c.denominator → (are : AreDifferences targets c stated differences)
    → (apart : ℕ) × (are.spread ≤ apart * (162_000 * c.denominator))
    × IsApart targets c stated 0 apart
some_apart targets c stated differences some are =
    let unit = 162_000 * c.denominator in
    let most = (are.spread + (unit - 1)) / unit in
    let up : IsRoundedUp are.spread unit most = rounded_up are.spread unit (omega (arith, some)) in
    let half : IsHalfSpread targets c stated 0 most =
    record {
      spread = are.spread;
      is_spread = are.best.is_spread;
      rounded_up = record {
        not_below = omega (arith, up.not_below);
        least = omega (arith, up.least);
      };
    } in
    (most, up.not_below, half_spread_is_apart targets c stated 0 most half some)

-- No difference is larger in size than how far the directions are apart, whatever numbers are off.
pub no_larger : (targets off apart : ℕ) (c : Choice) (stated : ℕ → ℤ) (differences : List ℤ)
    → 1 ≤ c.denominator → IsApart targets c stated off apart
    → AreDifferences targets c stated differences
    → (t : ℕ) → t < targets → IsWithin (pos apart) (get_or differences t (pos 0))
no_larger targets off apart c stated differences some is are t h =
    let (most, narrow, also) = some_apart targets c stated differences some are in
    let further : apart < most → ⊥ = λ less. also.no_nearer apart less (record {
      near = is.brought.near;
      brought = is.brought.brought;
      counted = omega (arith, is.brought.counted);
    }) in
    let no_more : most ≤ apart = omega (arith, further) in
    let wider = mul-le-mul_right (162_000 * c.denominator) no_more in
    let m = are.each t h in
    within_half c.denominator m.way are.spread apart (get_or differences t (pos 0)) some
    (are.best.first.here.held t h m.way m.onward) (omega (arith, narrow, wider)) m.rounded
