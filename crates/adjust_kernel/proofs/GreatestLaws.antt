-- The greatest residual in size: there is one, and one alone.
use Rattle.std.proofs.Common.{◌≡◌, ◌⊎◌, inl, inr, ℕ, suc, ◌≤◌, ◌<◌, List, [], ◌∷◌, length, ℤ, pos}
use Rattle.std.proofs.Common.{negsuc, ◌≤ℤ◌, arith, ap, refl, sym, ◌∙◌, subst}
use Rattle.std.specs.Prelude.{max, fold, All, Any}
use Rattle.std.specs.Int.RustNames.{unsigned_abs}
use Rattle.std.proofs.lemmas.Int.{ints}
use Rattle.std.proofs.lemmas.List.Elements.{All-cons, All-nil}
use native.Mathlib.Decide.{dec_le}
use Rattle.adjust_kernel.specs.TurnedObservations.{TurnedObservation}
use Rattle.adjust_kernel.specs.Residuals.{Choice, residual}
use Rattle.adjust_kernel.specs.Within.{IsWithin}
use Rattle.adjust_kernel.specs.Greatest.{IsGreatest}

-- A number within a bound has at most that size.
pub size_within : (m : ℕ) (z : ℤ) → IsWithin (pos m) z → unsigned_abs z ≤ m
size_within m (pos n) h = omega (arith, ints)
size_within m (negsuc n) h = omega (arith, ints)

-- What isn't above a size is within it.
pub within_size : (m : ℕ) (z : ℤ) → (m < unsigned_abs z → ⊥) → IsWithin (pos m) z
within_size m (pos n) h = let le : n ≤ m = omega (arith, h) in
    record { low = omega (arith, ints); high = omega (arith, ints) }
within_size m (negsuc n) h = let le : suc n ≤ m = omega (arith, h) in
    record { low = omega (arith, ints); high = omega (arith, ints) }

-- The greatest size of a residual, observation by observation.
abbrev greatest_from : Choice → ℕ → List TurnedObservation → ℕ
greatest_from c known observations =
    fold (λ g r. max g (unsigned_abs (residual c r))) known observations

-- The greatest size of a residual of these observations, or 0 where there are none.
abbrev pub greatest_size : Choice → List TurnedObservation → ℕ
greatest_size c observations = greatest_from c 0 observations

module _ (c : Choice) where
  grows : (known : ℕ) (observations : List TurnedObservation)
      → known ≤ greatest_from c known observations
  grows known [] = omega arith
  grows known (r ∷ observations) = let e =
      grows (max known (unsigned_abs (residual c r))) observations in
      omega arith

  bounds : (known : ℕ) (observations : List TurnedObservation)
      → All (λ r. IsWithin (pos (greatest_from c known observations)) (residual c r)) observations
  bounds known [] = All-nil (λ (r : TurnedObservation). IsWithin (pos known) (residual c r))
  bounds known (r ∷ observations) =
      let next = max known (unsigned_abs (residual c r)) in
      let e = grows next observations in
      All-cons (λ (r : TurnedObservation). IsWithin (pos (greatest_from c next observations))
      (residual c r)) r
      observations
      (within_size (greatest_from c next observations) (residual c r)
      (λ above. absurd (omega arith)))
      (bounds next observations)

  -- Some observation has this size.
  abbrev IsReached : ℕ → List TurnedObservation → Type 0
  IsReached size observations = Any (λ r. pos (unsigned_abs (residual c r)) ≡ pos size) observations

  -- The greatest is what was known before, or is reached.
  reaches : (known : ℕ) (observations : List TurnedObservation)
      → (greatest_from c known observations ≡ known)
      ⊎ IsReached (greatest_from c known observations) observations
  reaches known [] = inl refl
  reaches known (r ∷ observations) = by (greatest_from c (max known (unsigned_abs (residual c r)))
      observations) (reaches (max known (unsigned_abs (residual c r))) observations)
      (dec_le (unsigned_abs (residual c r)) known) where
        by : (size : ℕ) → (size ≡ max known (unsigned_abs (residual c r)))
            ⊎ IsReached size observations
            → Dec (unsigned_abs (residual c r) ≤ known) → (size ≡ known)
            ⊎ IsReached size (r ∷ observations)
        by size (inr (k, x, inside, at, e)) d = inr (suc k, x, omega (arith, inside), at, e)
        by size (inl e) (yes le) = inl (omega (arith, e, le))
        by size (inl e) (no f) = inr (0, r, omega arith, refl, ap pos (omega (arith, e, f)))

  -- Where something was observed, the greatest size is the greatest of the residuals.
  pub greatest_is : (observations : List TurnedObservation) → 1 ≤ length observations
      → IsGreatest c observations (pos (greatest_size c observations))
  greatest_is [] h = absurd (omega arith)
  greatest_is (r ∷ observations) h = record {
    bound = bounds 0 (r ∷ observations);
    reached = by (reaches 0 (r ∷ observations));
  } where
    by : (greatest_size c (r ∷ observations) ≡ 0)
        ⊎ IsReached (greatest_size c (r ∷ observations)) (r ∷ observations)
        → IsReached (greatest_size c (r ∷ observations)) (r ∷ observations)
    by (inr a) = a
    by (inl e) =
        let g = grows (max 0 (unsigned_abs (residual c r))) observations in
        (0, r, omega arith, refl, ap pos (omega (arith, e, g)))

  -- A greatest size is no larger than another.
  no_larger : (observations : List TurnedObservation) (a b : ℤ) → IsGreatest c observations a
      → IsGreatest c observations b → (n : ℕ) → a ≡ pos n → pos n ≤ℤ b
  no_larger observations a b f g n e =
      let (k, r, inside, at, size) = f.reached in
      let w = g.bound k r inside in
      at_most (residual c r) n b (size ∙ e) (subst
      (λ (r : TurnedObservation). IsWithin b (residual c r)) at w)
    where
      at_most : (z : ℤ) (n : ℕ) (b : ℤ) → pos (unsigned_abs z) ≡ pos n → IsWithin b z → pos n ≤ℤ b
      at_most (pos m) n b e w = let h = w.high in omega (arith, ints, e)
      at_most (negsuc m) n b e w = let l = w.low in omega (arith, ints, e)

  -- There is one greatest size.
  pub one_greatest : (observations : List TurnedObservation) (a b : ℤ) → IsGreatest c observations a
      → IsGreatest c observations b → a ≡ b
  one_greatest observations a b f g =
      let m = no_larger observations a b f g (unsigned_abs (residual c f.reached.1))
      (sym f.reached.4) in
      let n = no_larger observations b a g f (unsigned_abs (residual c g.reached.1))
      (sym g.reached.4) in
      let p = f.reached.4 in
      let q = g.reached.4 in
      omega (arith, ints, m, n, p, q)
