-- The readings of both faces, from the two-face direction and 2c.
use Rattle.std.proofs.Common.{◌≡◌, ℕ, zero, suc, ◌+◌, ◌*◌, ◌/◌, ◌<◌, ◌≤◌, ℤ, pos, negsuc}
use Rattle.std.proofs.Common.{List, ◌+ℤ◌, ◌≤ℤ◌, neg_ℤ, arith, ap, refl, ◌∙◌}
use Rattle.std.proofs.Math.IntN.{◌*ℤ◌, ◌-ℤ◌}
use Rattle.std.proofs.lemmas.Int.{int_rem_euclid_is, ints}
use Rattle.std.proofs.lemmas.Nat.{mod-mul-add}
use Rattle.std.specs.Int.{int_rem_euclid}
use Rattle.std.specs.Int.RustNames.{unsigned_abs}
use Rattle.adjust_kernel.proofs.Ring.{num, ◌⊖◌, ◌⊗◌, same_value}
use Rattle.adjust_kernel.specs.Matching.{Key}
use Rattle.station_book.proofs.readings.WithinLimits.{place_on_circle}
use Rattle.station_book.specs.Faults.{angles_at}
use Rattle.station_book.specs.Limits.{AreLimits, FaceLimits}
use Rattle.station_book.specs.Places.{History}
use Rattle.station_book.specs.Recorded.{IsRecordedWith}
use Rattle.station_book.specs.declared.faces.Faces.{Faces}
use Rattle.station_book.specs.TwoFaces.{Angles, AreOnCircle, IsTwoC, IsTwoFace}
use Rattle.station_report.specs.Readings.{reading_one, reading_two, zenith_mean}
use Rattle.station_report.specs.Readings.{zenith_one, zenith_two}

-- What is on a circle is what remains after whole circles.
on_circle : (n h : ℕ) (z k : ℤ) → 0 < n → h < n → z ≡ pos h +ℤ pos n *ℤ k → neg_ℤ (pos n) ≤ℤ z
    → int_rem_euclid z (pos n) ≡ pos h
on_circle n h z (pos j) some below is low =
    let e : pos n *ℤ pos j ≡ pos (n * j) =
    same_value (num (pos n) ⊗ num (pos j)) (num (pos (n * j))) (omega arith) in
    int_rem_euclid_is z (pos n) n 1 ((j + 1) * n + h) some refl (omega (arith, ints, is, e))
    ∙ ap pos (mod-mul-add (j + 1) n h below)
on_circle n h z (negsuc zero) some below is low =
    let e : pos n *ℤ negsuc 0 ≡ pos 0 -ℤ pos n =
    same_value (num (pos n) ⊗ num (negsuc 0)) (num (pos 0) ⊖ num (pos n)) (omega arith) in
    int_rem_euclid_is z (pos n) n 1 (0 * n + h) some refl (omega (arith, ints, is, e))
    ∙ ap pos (mod-mul-add 0 n h below)
on_circle n h z (negsuc (suc j)) some below is low =
    let e : pos n *ℤ negsuc (suc j) ≡ pos 0 -ℤ pos (n * (j + 2)) =
    same_value (num (pos n) ⊗ num (negsuc (suc j))) (num (pos 0) ⊖ num (pos (n * (j + 2))))
    (omega arith) in
    absurd (omega (arith, ints, is, e, low, below))

-- The two-face direction is twice the direction of face I and 2c more, but for whole turns.
near_one : (p one two limit : ℕ) (d k l m : ℤ) → limit ≤ 1_000_000
    → pos p ≡ (pos one +ℤ pos two -ℤ pos 20_000_000) +ℤ pos 40_000_000 *ℤ k
    → d ≡ (pos two -ℤ pos one -ℤ pos 20_000_000) +ℤ pos 40_000_000 *ℤ l
    → (pos 0 -ℤ pos limit) ≤ℤ (pos p -ℤ (pos (2 * one) +ℤ pos 80_000_000 *ℤ m))
    → (pos p -ℤ (pos (2 * one) +ℤ pos 80_000_000 *ℤ m)) ≤ℤ pos limit
    → (pos 0 -ℤ pos limit) ≤ℤ d → d ≤ℤ pos limit
    → (pos p -ℤ d) ≡ pos (2 * one) +ℤ pos 80_000_000 *ℤ m
near_one p one two limit d k l m small sum difference p_low p_high d_low d_high =
    omega (arith, ints, small, sum, difference, p_low, p_high, d_low, d_high)

module _ (limits : FaceLimits) (small : AreLimits limits) (first second : Angles)
    (one_on : AreOnCircle first) (two_on : AreOnCircle second) (p : ℕ) (d : ℤ)
    (sum : IsTwoFace limits.two_c first second p) (difference : IsTwoC limits.two_c first second d)
  where
    twice : (pos p -ℤ d) ≡ pos (2 * first.hz) +ℤ pos 80_000_000 *ℤ sum.near.turns
    twice = near_one p first.hz second.hz limits.two_c d sum.congruent.turns
        difference.congruent.turns sum.near.turns small.two_c sum.congruent.equal
        difference.congruent.equal sum.near.within.low sum.near.within.high difference.within.low
        difference.within.high

    -- The direction of face I is what was read there.
    pub one_is : reading_one p d ≡ first.hz
    one_is =
        let below = one_on.hz in
        let limit = small.two_c in
        let high = difference.within.high in
        let e = on_circle 80_000_000 (2 * first.hz) (pos p -ℤ d) sum.near.turns (omega arith)
        (omega (arith, below)) twice (omega (arith, ints, limit, high)) in
        let half : 2 * first.hz / 2 ≡ first.hz = omega arith in
        ap (λ z. unsigned_abs z / 2) e ∙ half

    -- And so is that of face II.
    pub two_is : reading_two p d ≡ second.hz
    two_is =
        let one = one_is in
        let below = two_on.hz in
        let limit = small.two_c in
        let low = difference.within.low in
        let equal = difference.congruent.equal in
        let is : (pos (reading_one p d + 20_000_000) +ℤ d)
        ≡ pos second.hz +ℤ pos 40_000_000 *ℤ difference.congruent.turns =
        omega (arith, ints, one, equal) in
        ap unsigned_abs (on_circle 40_000_000 second.hz (pos (reading_one p d + 20_000_000) +ℤ d)
        difference.congruent.turns (omega arith) below is (omega (arith, ints, limit, low)))

-- What is printed as read is what was read, of whichever readings a two-face direction is.
pub as_read : (limits : FaceLimits) (h : History) (name : List ℕ) (k : Key) (f : Faces)
    → AreLimits limits → (r : IsRecordedWith limits h name k f)
    → (reading_one k.value f.two_c ≡ (angles_at r.recorded.first).hz)
    × (reading_two k.value f.two_c ≡ (angles_at r.recorded.second).hz)
as_read limits h name k f small r =
    let first = angles_at r.recorded.first in
    let second = angles_at r.recorded.second in
    let one_on = place_on_circle r.recorded.first in
    let two_on = place_on_circle r.recorded.second in (
      one_is limits small first second one_on two_on k.value f.two_c r.recorded.direction r.two_c,
      two_is limits small first second one_on two_on k.value f.two_c r.recorded.direction r.two_c,
    )

-- The zenith angles that are printed as read are those that were read.
pub zeniths_as_read : (limits : FaceLimits) (h : History) (name : List ℕ) (k : Key) (f : Faces)
    → (r : IsRecordedWith limits h name k f)
    → (zenith_one f.zenith ≡ (angles_at r.recorded.first).zenith)
    × (zenith_two f.zenith f.two_i ≡ (angles_at r.recorded.second).zenith)
zeniths_as_read limits h name k f r =
    let one = (angles_at r.recorded.first).zenith in
    let two = (angles_at r.recorded.second).zenith in
    let one_below = (place_on_circle r.recorded.first).zenith in
    let two_below = (place_on_circle r.recorded.second).zenith in
    let zenith = r.zenith in
    let equal = r.two_i.equal in (
      ap unsigned_abs (on_circle 40_000_000 one f.zenith (pos 0) (omega arith) one_below
          (omega (arith, ints, zenith)) (omega (arith, ints, zenith))),
      ap unsigned_abs (on_circle 40_000_000 two (f.two_i -ℤ f.zenith) (negsuc 0) (omega arith)
          two_below (omega (arith, ints, zenith, equal)) (omega (arith, ints, zenith, equal))),
    )

-- Their mean in half units is twice that of face I, less 2i.
pub mean_of_zeniths : (limits : FaceLimits) (h : History) (name : List ℕ) (k : Key) (f : Faces)
    → IsRecordedWith limits h name k f
    → (pos (zenith_mean f.zenith f.two_i) +ℤ f.two_i) ≡ f.zenith +ℤ f.zenith
mean_of_zeniths limits h name k f r =
    let read = zeniths_as_read limits h name k f r in
    let one = read.0 in
    let two = read.1 in
    let two_below = (place_on_circle r.recorded.second).zenith in
    let zenith = r.zenith in
    let equal = r.two_i.equal in
    omega (arith, ints, one, two, two_below, zenith, equal)
