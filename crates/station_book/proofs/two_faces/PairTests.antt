-- The tests on two readings say whether they have a 2c, and whether they have a 2i.
use Rattle.std.proofs.Common.{◌≡◌, ◌↔◌, ℕ, ◌+◌, ◌-◌, ◌%◌, ◌≤◌, true, false, ltb, inl, inr, ◌⊎◌}
use Rattle.std.proofs.Common.{arith, ◌||◌, subst}
use Rattle.std.specs.Prelude.{ℤ, pos, ◌-ℤ◌, ◌+ℤ◌}
use Rattle.std.proofs.lemmas.Int.{ints}
use Rattle.std.proofs.lemmas.Bool.{cases_Bool, and_parts, ltb-true, or_cases}
use Rattle.station_book.specs.Limits.{FaceLimits, AreLimits}
use Rattle.station_book.specs.TwoFaces.{Angles, IsAtMost, IsTwoC, IsTwoI, AreOnCircle}
use Rattle.station_book.specs.Faults.{has_no_two_c, has_no_two_i}
use Rattle.station_book.specs.Pairs.{two_c, two_i}
use Rattle.station_book.proofs.two_faces.ComputedPairs.{computed_two_c, computed_two_i}

no_two_c : (limit : ℕ) (a b : Angles) → limit ≤ 1_000_000 → AreOnCircle a → AreOnCircle b
    → has_no_two_c limit a b ≡ true → (d : ℤ) → ¬ IsTwoC limit a b d
unfolding has_no_two_c
no_two_c limit a b small ha hb e d t =
    let parts = and_parts (ltb limit (((b.hz + 60_000_000) - a.hz) % 40_000_000))
    (ltb (((b.hz + 60_000_000) - a.hz) % 40_000_000) (40_000_000 - limit)) e in
    let low = ltb-true limit (((b.hz + 60_000_000) - a.hz) % 40_000_000) parts.0 in
    let high = ltb-true (((b.hz + 60_000_000) - a.hz) % 40_000_000) (40_000_000 - limit) parts.1 in
    let q = t.congruent.equal in let l = t.within.low in let h = t.within.high in
    omega (arith, ints)

-- Two readings without a fault of 2c have a 2c: the one that is computed.
pub a_two_c : (limit : ℕ) (a b : Angles) → AreOnCircle a → AreOnCircle b
    → has_no_two_c limit a b ≡ false → (d : ℤ) × IsTwoC limit a b d
a_two_c limit a b ha hb e = (two_c a b, computed_two_c limit a b ha hb e)

two_i_beyond : (limit a b : ℕ)
    → (ltb (40_000_000 + limit) (a + b) || ltb ((a + b) + limit) 40_000_000) ≡ true
    → IsAtMost limit (pos a +ℤ pos b -ℤ pos 40_000_000) → ⊥
two_i_beyond limit a b e w = split
    (or_cases (ltb (40_000_000 + limit) (a + b)) (ltb ((a + b) + limit) 40_000_000) e) where
      split : (ltb (40_000_000 + limit) (a + b) ≡ true) ⊎ (ltb ((a + b) + limit) 40_000_000 ≡ true)
          → ⊥
      split (inl f) = let lt = ltb-true (40_000_000 + limit)
          (a + b) f in let l = w.low in let h = w.high in omega (arith, ints)
      split (inr f) = let lt = ltb-true
          ((a + b) + limit) 40_000_000 f in let l = w.low in let h = w.high in omega (arith, ints)

no_two_i : (limit : ℕ) (a b : Angles) → has_no_two_i limit a b ≡ true → (d : ℤ)
    → ¬ IsTwoI limit a b d
unfolding has_no_two_i
no_two_i limit a b e d t = two_i_beyond limit a.zenith b.zenith e
    (subst (IsAtMost limit) t.equal t.within)

-- Two readings without a fault of 2i have a 2i: the one that is computed.
pub a_two_i : (limit : ℕ) (a b : Angles) → has_no_two_i limit a b ≡ false
    → (e : ℤ) × IsTwoI limit a b e
a_two_i limit a b e = (two_i a b, computed_two_i limit a b e)

-- Two readings have the fault of 2c exactly where they have no 2c within the limit.
pub two_c_missing : (limits : FaceLimits) (a b : Angles) → AreLimits limits → AreOnCircle a
    → AreOnCircle b
    → (has_no_two_c limits.two_c a b ≡ true) ↔ ((d : ℤ) → ¬ IsTwoC limits.two_c a b d)
two_c_missing limits a b small ha hb = (
  no_two_c limits.two_c a b small.two_c ha hb,
  back (cases_Bool (has_no_two_c limits.two_c a b)),
) where
  back : (has_no_two_c limits.two_c a b ≡ true) ⊎ (has_no_two_c limits.two_c a b ≡ false)
      → ((d : ℤ) → ¬ IsTwoC limits.two_c a b d) → has_no_two_c limits.two_c a b ≡ true
  back (inl t) none = t
  back (inr f) none = let some = a_two_c limits.two_c a b ha hb f in absurd
      (none some.0 some.1)

-- Two readings have the fault of 2i exactly where they have no 2i within the limit.
pub two_i_missing : (limits : FaceLimits) (a b : Angles)
    → (has_no_two_i limits.two_i a b ≡ true) ↔ ((e : ℤ) → ¬ IsTwoI limits.two_i a b e)
two_i_missing limits a b =
    (no_two_i limits.two_i a b, back (cases_Bool (has_no_two_i limits.two_i a b))) where
      back : (has_no_two_i limits.two_i a b ≡ true) ⊎ (has_no_two_i limits.two_i a b ≡ false)
          → ((e : ℤ) → ¬ IsTwoI limits.two_i a b e) → has_no_two_i limits.two_i a b ≡ true
      back (inl t) none = t
      back (inr f) none = let some = a_two_i limits.two_i a b f in absurd (none some.0 some.1)
