-- What a book computes of two readings within the limits is their 2c, their 2i and their two-face
-- direction.
use Rattle.std.proofs.Common.{◌≡◌, ℕ, ◌+◌, ◌-◌, ◌*◌, ◌/◌, ◌%◌, ◌<◌, false, ltb, ◌&&◌, ◌||◌, inl}
use Rattle.std.proofs.Common.{inr, ◌⊎◌, arith}
use Rattle.std.specs.Prelude.{ℤ, pos, ◌+ℤ◌, ◌-ℤ◌, ◌*ℤ◌}
use Rattle.std.proofs.lemmas.Int.{ints}
use Rattle.std.proofs.lemmas.Bool.{and_cases, ltb-false, or_parts}
use Rattle.station_book.specs.TwoFaces.{Angles, IsAtMost, AreCongruent, AreNear, AreOnCircle}
use Rattle.station_book.specs.TwoFaces.{IsTwoC, IsTwoI, IsTwoFace}
use Rattle.station_book.specs.Faults.{has_no_two_c, has_no_two_i}
use Rattle.station_book.specs.Pairs.{half_turned, two_c, two_i, direction}

within_c : (limit f s : ℕ) → f < 40_000_000 → s < 40_000_000
    → (ltb limit (((s + 60_000_000) - f) % 40_000_000) && ltb (((s + 60_000_000) - f) % 40_000_000)
    (40_000_000 - limit)) ≡ false
    → IsAtMost limit (pos (((s + 40_000_000) - f) % 40_000_000) -ℤ pos 20_000_000)
within_c limit f s hf hs e = split
    (and_cases (ltb limit (((s + 60_000_000) - f) % 40_000_000)) _ e) where
      split : (ltb limit (((s + 60_000_000) - f) % 40_000_000) ≡ false)
          ⊎ (ltb (((s + 60_000_000) - f) % 40_000_000) (40_000_000 - limit) ≡ false)
          → IsAtMost limit (pos (((s + 40_000_000) - f) % 40_000_000) -ℤ pos 20_000_000)
      split (inl g) = let le = ltb-false limit (((s + 60_000_000) - f) % 40_000_000) g in
          record { low = omega (arith, ints); high = omega (arith, ints) }
      split (inr g) = let le = ltb-false (((s + 60_000_000) - f) % 40_000_000)
          (40_000_000 - limit) g in record { low = omega (arith, ints); high = omega (arith, ints) }

congruent_c : (f s : ℕ) → f < 40_000_000 → s < 40_000_000
    → AreCongruent (pos 40_000_000) (pos (((s + 40_000_000) - f) % 40_000_000) -ℤ pos 20_000_000)
    (pos s -ℤ pos f -ℤ pos 20_000_000)
congruent_c f s hf hs = record {
  turns = pos 1 -ℤ pos (((s + 40_000_000) - f) / 40_000_000);
  equal = omega (arith, ints);
}

-- Of two readings without a fault of 2c, what is computed is their 2c.
pub computed_two_c : (limit : ℕ) (a b : Angles) → AreOnCircle a → AreOnCircle b
    → has_no_two_c limit a b ≡ false → IsTwoC limit a b (two_c a b)
unfolding has_no_two_c
computed_two_c limit a b ha hb e = record {
  congruent = congruent_c a.hz b.hz ha.hz hb.hz;
  within = within_c limit a.hz b.hz ha.hz hb.hz e;
}

within_i : (limit a b : ℕ)
    → (ltb (40_000_000 + limit) (a + b) || ltb ((a + b) + limit) 40_000_000) ≡ false
    → IsAtMost limit (pos (a + b) -ℤ pos 40_000_000)
within_i limit a b e =
    let parts = or_parts (ltb (40_000_000 + limit) (a + b)) (ltb ((a + b) + limit) 40_000_000) e in
    let high = ltb-false (40_000_000 + limit) (a + b) parts.0 in
    let low = ltb-false ((a + b) + limit) 40_000_000 parts.1 in
    record { low = omega (arith, ints); high = omega (arith, ints) }

sum_i : (a b : ℕ) → pos (a + b) -ℤ pos 40_000_000 ≡ pos a +ℤ pos b -ℤ pos 40_000_000
sum_i a b = omega (arith, ints)

-- Of two readings without a fault of 2i, what is computed is their 2i.
pub computed_two_i : (limit : ℕ) (a b : Angles) → has_no_two_i limit a b ≡ false
    → IsTwoI limit a b (two_i a b)
unfolding has_no_two_i
computed_two_i limit a b e =
    record { equal = sum_i a.zenith b.zenith; within = within_i limit a.zenith b.zenith e }

-- twice the direction of face I and 2c, on the circle of half units
turned : (f s h : ℕ) (k : ℤ)
    → pos h -ℤ pos 20_000_000 ≡ (pos s -ℤ pos f -ℤ pos 20_000_000) +ℤ (pos 40_000_000 *ℤ k)
    → AreCongruent (pos 40_000_000) (pos (((2 * f + h) + 60_000_000) % 80_000_000))
    (pos f +ℤ pos s -ℤ pos 20_000_000)
turned f s h k e = record {
  turns = (k +ℤ pos 2) -ℤ pos (2 * (((2 * f + h) + 60_000_000) / 80_000_000));
  equal = omega (arith, ints);
}

beside : (limit f h : ℕ) → IsAtMost limit (pos h -ℤ pos 20_000_000)
    → AreNear (pos 80_000_000) limit (pos (((2 * f + h) + 60_000_000) % 80_000_000)) (pos (2 * f))
beside limit f h w =
    let l = w.low in let u = w.high in
    record {
      turns = pos 1 -ℤ pos (((2 * f + h) + 60_000_000) / 80_000_000);
      within = record { low = omega (arith, ints); high = omega (arith, ints) };
    }

-- Of two readings without a fault of 2c, what is computed is their two-face direction.
pub computed_direction : (limit : ℕ) (a b : Angles) → AreOnCircle a → AreOnCircle b
    → has_no_two_c limit a b ≡ false → IsTwoFace limit a b (direction a b)
computed_direction limit a b ha hb e =
    let c = computed_two_c limit a b ha hb e in
    record {
      below = omega arith;
      congruent = turned a.hz b.hz (half_turned a b) c.congruent.turns c.congruent.equal;
      near = beside limit a.hz (half_turned a b) c.within;
    }
