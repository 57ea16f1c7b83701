-- Where a sum of residuals does not vanish, moving that target or set by its mean residual lowers
-- the sum of squares.
use Rattle.std.proofs.Common.{◌≡◌, ◌≢◌, ℕ, suc, zero, ◌+◌, ◌*◌, ◌≤◌, Bool, true, false, cond, eqb}
use Rattle.std.proofs.Common.{List, [], ◌∷◌, ℤ, pos, negsuc, ◌+ℤ◌, ◌<ℤ◌, arith, ap, refl, sym, ◌∙◌}
use Rattle.std.proofs.Math.IntN.{◌*ℤ◌, ◌-ℤ◌}
use Rattle.std.proofs.lemmas.Int.{ints}
use Rattle.adjust_kernel.specs.TurnedObservations.{TurnedObservation}
use Rattle.adjust_kernel.specs.Sums.{int_sum_where, squared}
use Rattle.adjust_kernel.specs.Residuals.{Choice, residual, sum_of_squares, unrolled, target_sum}
use Rattle.adjust_kernel.specs.Residuals.{set_sum}
use Rattle.adjust_kernel.specs.Least.{HasBetter}
use Rattle.adjust_kernel.proofs.Ring.{num, ◌⊕◌, ◌⊖◌, ◌⊗◌, same_value}
use Rattle.adjust_kernel.proofs.SumLaws.{int_sum_by-same, int_sum_by-add, int_sum_by-sub}
use Rattle.adjust_kernel.proofs.SumLaws.{int_sum_by-scale}

-- How many pass.
abbrev passing : {X : Type 0} → (X → Bool) → List X → ℕ
passing p [] = 0
passing p (x ∷ xs) = cond (p x) 1 0 + passing p xs

module _ {X : Type 0} (p : X → Bool) where
  next_equal : (b : Bool) (z : ℤ) (n : ℕ) → cond b z (pos 0) +ℤ pos n *ℤ z
      ≡ pos (cond b 1 0 + n) *ℤ z
  next_equal true z n = same_value (num z ⊕ num (pos n) ⊗ num z) (num (pos (1 + n)) ⊗ num z)
      (omega arith)
  next_equal false z n = same_value (num (pos 0) ⊕ num (pos n) ⊗ num z) (num (pos (0 + n)) ⊗ num z)
      (omega arith)

  sum_of_equal : (z : ℤ) (xs : List X) → int_sum_where p (λ x. z) xs ≡ pos (passing p xs) *ℤ z
  sum_of_equal z [] = sym (omega (arith, ints))
  sum_of_equal z (x ∷ xs) = ap (λ s. cond (p x) z (pos 0) +ℤ s) (sum_of_equal z xs)
      ∙ next_equal (p x) z (passing p xs)

  none_next : (b : Bool) (z s : ℤ) (n : ℕ) → (n ≡ 0 → s ≡ pos 0) → cond b 1 0 + n ≡ 0
      → cond b z (pos 0) +ℤ s ≡ pos 0
  none_next true z s n h e = absurd (omega arith)
  none_next false z s n h e = let k : s ≡ pos 0 = h (omega arith) in omega (arith, ints)

  sum_of_none : (f : X → ℤ) (xs : List X) → passing p xs ≡ 0 → int_sum_where p f xs ≡ pos 0
  sum_of_none f [] h = refl
  sum_of_none f (x ∷ xs) h = none_next (p x) (f x) (int_sum_where p f xs) (passing p xs)
      (sum_of_none f xs) h

squared-positive : (z : ℤ) → z ≢ pos 0 → (n : ℕ) → 1 ≤ n → pos 0 <ℤ (pos n *ℤ squared z)
squared-positive (pos zero) h n k = absurd (h refl)
squared-positive (pos (suc a)) h n k = let e : 1 ≤ n * (suc a * suc a) =
    positive n (suc a * suc a) k (positive (suc a) (suc a) (omega arith) (omega arith)) in
    omega (arith, ints)
  where
    positive : (m n : ℕ) → 1 ≤ m → 1 ≤ n → 1 ≤ m * n
    positive m n h k = grind arith
squared-positive (negsuc a) h n k = let e : 1 ≤ n * (suc a * suc a) =
    positive n (suc a * suc a) k (positive (suc a) (suc a) (omega arith) (omega arith)) in
    omega (arith, ints)
  where
    positive : (m n : ℕ) → 1 ≤ m → 1 ≤ n → 1 ≤ m * n
    positive m n h k = grind arith

squared_move : (m : ℕ) (b : Bool) (v s : ℤ)
    → squared (pos m *ℤ v -ℤ cond b s (pos 0)) ≡ pos (m * m) *ℤ squared v
    -ℤ (pos (2 * m) *ℤ s) *ℤ cond b v (pos 0) +ℤ cond b (squared s) (pos 0)
squared_move m true v s =
    let w = num (pos m) ⊗ num v ⊖ num s in
    same_value (w ⊗ w) (num (pos (m * m)) ⊗ (num v ⊗ num v) ⊖ (num (pos (2 * m)) ⊗ num s) ⊗ num v
    ⊕ num s ⊗ num s) (omega arith)
squared_move m false v s =
    let w = num (pos m) ⊗ num v ⊖ num (pos 0) in
    same_value (w ⊗ w) (num (pos (m * m)) ⊗ (num v ⊗ num v)
    ⊖ (num (pos (2 * m)) ⊗ num s) ⊗ num (pos 0) ⊕ num (pos 0)) (omega arith)

left_over : (m : ℕ) (q s : ℤ) → pos (m * m) *ℤ q -ℤ (pos (2 * m) *ℤ s) *ℤ s +ℤ pos m *ℤ squared s
    ≡ pos (m * m) *ℤ q -ℤ pos m *ℤ squared s
left_over m q s = same_value
    (num (pos (m * m)) ⊗ num q ⊖ (num (pos (2 * m)) ⊗ num s) ⊗ num s
    ⊕ num (pos m) ⊗ (num s ⊗ num s))
    (num (pos (m * m)) ⊗ num q ⊖ num (pos m) ⊗ (num s ⊗ num s))
    (omega arith)

over_both : (d m : ℕ) (q s : ℤ) → pos (d * d) *ℤ (pos (m * m) *ℤ q -ℤ pos m *ℤ s)
    +ℤ pos (d * d * m) *ℤ s ≡ pos (d * m * (d * m)) *ℤ q
over_both d m q s = same_value
    (num (pos (d * d)) ⊗ (num (pos (m * m)) ⊗ num q ⊖ num (pos m) ⊗ num s)
    ⊕ num (pos (d * d * m)) ⊗ num s)
    (num (pos (d * m * (d * m))) ⊗ num q)
    (omega arith)

product_positive : (d m : ℕ) → 1 ≤ d → 1 ≤ m → (1 ≤ d * m) × (1 ≤ d * d * m)
product_positive d m h k = (positive d m h k, positive (d * d) m (positive d d h h) k)
  where
    positive : (m n : ℕ) → 1 ≤ m → 1 ≤ n → 1 ≤ m * n
    positive m n h k = grind arith

module _ (c other : Choice) (p : TurnedObservation → Bool)
    (observations : List TurnedObservation) where
  abbrev S : ℤ
  S = int_sum_where p (residual c) observations

  abbrev m : ℕ
  m = passing p observations

  module _ (over : other.denominator ≡ c.denominator * m) (at_row : (r : TurnedObservation)
      → residual other r ≡ pos m *ℤ residual c r -ℤ cond (p r) S (pos 0)) where
    moved_squares : sum_of_squares other observations ≡ pos (m * m) *ℤ sum_of_squares c observations
        -ℤ pos m *ℤ squared S
    moved_squares =
        int_sum_by-same (λ r. squared (residual other r))
        (λ r. pos (m * m) *ℤ squared (residual c r)
        -ℤ (pos (2 * m) *ℤ S) *ℤ cond (p r) (residual c r) (pos 0)
        +ℤ cond (p r) (squared S) (pos 0))
        (λ r. ap squared (at_row r) ∙ squared_move m (p r) (residual c r) S) observations
        ∙ int_sum_by-add (λ r. pos (m * m) *ℤ squared (residual c r)
        -ℤ (pos (2 * m) *ℤ S) *ℤ cond (p r) (residual c r) (pos 0))
        (λ r. cond (p r) (squared S) (pos 0)) observations
        ∙ (λ i. int_sum_by-sub (λ r. pos (m * m) *ℤ squared (residual c r))
        (λ r. (pos (2 * m) *ℤ S) *ℤ cond (p r) (residual c r) (pos 0)) observations i
        +ℤ sum_of_equal p (squared S) observations i)
        ∙ (λ i. int_sum_by-scale (pos (m * m)) (λ r. squared (residual c r)) observations i
        -ℤ int_sum_by-scale (pos (2 * m) *ℤ S)
        (λ r. cond (p r) (residual c r) (pos 0)) observations i
        +ℤ pos m *ℤ squared S)
        ∙ left_over m (sum_of_squares c observations) S

    -- Where the sum of some residuals is not 0, some choice has a smaller sum of squares.
    moved_is_better : 1 ≤ c.denominator → S ≢ pos 0 → HasBetter c observations
    moved_is_better h k =
        let some : 1 ≤ m = some_pass m refl in
        let more = product_positive c.denominator m h some in
        let e = ap (λ z. pos (c.denominator * c.denominator) *ℤ z) moved_squares in
        let f = over_both c.denominator m (sum_of_squares c observations) (squared S) in
        let g = squared-positive S k (c.denominator * c.denominator * m) more.1 in
        let i : pos (other.denominator * other.denominator) *ℤ sum_of_squares c observations
        ≡ pos (c.denominator * m * (c.denominator * m)) *ℤ sum_of_squares c observations =
        ap (λ n. pos (n * n) *ℤ sum_of_squares c observations) over in
        record { other = other; denominator = omega (arith, more.0); smaller = omega (arith, ints) }
      where
        some_pass : (n : ℕ) → n ≡ m → 1 ≤ n
        some_pass zero e = absurd (k (sum_of_none p (residual c) observations (sym e)))
        some_pass (suc n) e = omega arith

at_target : (m d : ℕ) (b : Bool) (a o y s : ℤ)
    → (pos m *ℤ a -ℤ cond b s (pos 0)) -ℤ pos m *ℤ o -ℤ pos (d * m) *ℤ y
    ≡ pos m *ℤ (a -ℤ o -ℤ pos d *ℤ y) -ℤ cond b s (pos 0)
at_target m d b a o y s =
    let x = num (cond b s (pos 0)) in
    same_value ((num (pos m) ⊗ num a ⊖ x) ⊖ num (pos m) ⊗ num o ⊖ num (pos (d * m)) ⊗ num y)
    (num (pos m) ⊗ (num a ⊖ num o ⊖ num (pos d) ⊗ num y) ⊖ x) (omega arith)

at_set : (m d : ℕ) (b : Bool) (a o y s : ℤ) → pos m *ℤ a -ℤ (pos m *ℤ o +ℤ cond b s (pos 0))
    -ℤ pos (d * m) *ℤ y ≡ pos m *ℤ (a -ℤ o -ℤ pos d *ℤ y) -ℤ cond b s (pos 0)
at_set m d b a o y s =
    let x = num (cond b s (pos 0)) in
    same_value (num (pos m) ⊗ num a ⊖ (num (pos m) ⊗ num o ⊕ x) ⊖ num (pos (d * m)) ⊗ num y)
    (num (pos m) ⊗ (num a ⊖ num o ⊖ num (pos d) ⊗ num y) ⊖ x) (omega arith)

-- Where the residuals of a target do not add to 0, some choice has a smaller sum of squares.
pub target_sum_has_better : (c : Choice) (observations : List TurnedObservation) (t : ℕ)
    → 1 ≤ c.denominator
    → target_sum c observations t ≢ pos 0 → HasBetter c observations
target_sum_has_better c observations t h k =
    let p : TurnedObservation → Bool = λ r. eqb r.target t in
    let n : ℕ = passing p observations in
    let s : ℤ = target_sum c observations t in
    let other : Choice = record {
      denominator = c.denominator * n;
      direction = λ u. pos n *ℤ c.direction u -ℤ cond (eqb u t) s (pos 0);
      orientation = λ u. pos n *ℤ c.orientation u;
    } in
    moved_is_better c other p observations refl (λ r.
    at_target n c.denominator (p r) (c.direction r.target) (c.orientation r.set) (unrolled r) s)
    h k

-- Where the residuals of a set do not add to 0, some choice has a smaller sum of squares.
pub set_sum_has_better : (c : Choice) (observations : List TurnedObservation) (t : ℕ)
    → 1 ≤ c.denominator
    → set_sum c observations t ≢ pos 0 → HasBetter c observations
set_sum_has_better c observations t h k =
    let p : TurnedObservation → Bool = λ r. eqb r.set t in
    let n : ℕ = passing p observations in
    let s : ℤ = set_sum c observations t in
    let other : Choice = record {
      denominator = c.denominator * n;
      direction = λ u. pos n *ℤ c.direction u;
      orientation = λ u. pos n *ℤ c.orientation u +ℤ cond (eqb u t) s (pos 0);
    } in
    moved_is_better c other p observations refl (λ r.
    at_set n c.denominator (p r) (c.direction r.target) (c.orientation r.set) (unrolled r) s) h
    k
