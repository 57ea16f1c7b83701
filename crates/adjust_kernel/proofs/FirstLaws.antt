-- The first place at which two lists differ, or of which something holds: there is one at most, and
-- one where the lists are not the same, or where it holds of any place.
use Rattle.std.proofs.Common.{◌≡◌, ◌⊎◌, inl, inr, ℕ, suc, zero, ◌<◌, Bool, true, false, List, []}
use Rattle.std.proofs.Common.{◌∷◌, take, ap, refl, sym, subst, ◌∙◌, arith}
use Rattle.std.specs.Bool.{Decides}
use Rattle.std.specs.List.{slice_get}
use native.Mathlib.Decide.{dec_lt, ℕ_discrete}
use Rattle.adjust_kernel.specs.Firsts.{IsFirstDifference, IsFirstWhere}

-- Two places of which neither is below the other are one.
pub same_place : (m n : ℕ) → (m < n → ⊥) → (n < m → ⊥) → m ≡ n
same_place m n h k = by (dec_lt m n) (dec_lt n m) where
  by : Dec (m < n) → Dec (n < m) → m ≡ n
  by (yes e) f = absurd (h e)
  by (no e) (yes f) = absurd (k f)
  by (no e) (no f) = omega arith

-- The place of a list's beginning, and of the list.
slice_get-take : {X : Type 0} (n : ℕ) (xs : List X) (m : ℕ) → m < n
    → slice_get (take n xs) m ≡ slice_get xs m
slice_get-take zero xs m h = absurd (omega arith)
slice_get-take (suc n) [] m h = refl
slice_get-take (suc n) (x ∷ xs) zero h = refl
slice_get-take (suc n) (x ∷ xs) (suc m) h = slice_get-take n xs m (omega arith)

module _ {X : Type 0} (xs ys : List X) where
  not_earlier_difference : (m n : ℕ) → IsFirstDifference xs ys m → IsFirstDifference xs ys n → m < n
      → ⊥
  not_earlier_difference m n f g below = f.differ (sym (slice_get-take n xs m below)
      ∙ ap (λ zs. slice_get zs m) g.before ∙ slice_get-take n ys m below)

  -- There is one first difference at most.
  pub one_difference : (m n : ℕ) → IsFirstDifference xs ys m → IsFirstDifference xs ys n → m ≡ n
  one_difference m n f g = same_place m n (not_earlier_difference m n f g)
      (not_earlier_difference n m g f)

  -- Lists that are the same have no first difference.
  pub no_difference : xs ≡ ys → (n : ℕ) → IsFirstDifference xs ys n → ⊥
  no_difference e n f = f.differ (ap (λ zs. slice_get zs n) e)

-- There is one first place at most.
pub one_first : (P : ℕ → Type 0) (count m n : ℕ) → IsFirstWhere P count m → IsFirstWhere P count n
    → m ≡ n
one_first P count m n f g = same_place m n (λ below. g.before m below f.here)
    (λ below. f.before n below g.here)

-- The lists are the same, or differ at a first place.
pub same_or_first : {X : Type 0} → ((x y : X) → Dec (x ≡ y)) → (xs ys : List X) → (xs ≡ ys)
    ⊎ ((n : ℕ) × IsFirstDifference xs ys n)
same_or_first same [] [] = inl refl
same_or_first same [] (y ∷ ys) = inr (0, record { before = refl; differ = λ e. cc })
same_or_first same (x ∷ xs) [] = inr (0, record { before = refl; differ = λ e. cc })
same_or_first {X} same (x ∷ xs) (y ∷ ys) = by (same x y) (same_or_first same xs ys) where
  by : Dec (x ≡ y) → (xs ≡ ys) ⊎ ((n : ℕ) × IsFirstDifference xs ys n) → (x ∷ xs ≡ y ∷ ys)
      ⊎ ((n : ℕ) × IsFirstDifference (x ∷ xs) (y ∷ ys) n)
  by (yes e) (inl f) = inl (λ i. e i ∷ f i)
  by (yes e) (inr (n, f)) = inr (
    suc n,
    record {
      before = λ i. e i ∷ f.before i;
      differ = f.differ;
    },
  )
  by (no g) rest = inr (0, record { before = refl; differ = λ e. let h : x ≡ y = cc in g h })

-- It holds of no place below the count, or of a first one.
pub none_or_first : (P : ℕ → Type 0) → ((n : ℕ) → Dec (P n)) → (count : ℕ)
    → ((n : ℕ) → n < count → P n → ⊥) ⊎ ((n : ℕ) × IsFirstWhere P count n)
none_or_first P holds zero = inl (λ n h p. absurd (omega arith))
none_or_first P holds (suc count) = by (none_or_first P holds count) (holds count) where
  last : ((n : ℕ) → n < count → P n → ⊥) → (P count → ⊥) → (n : ℕ) → n < suc count → P n → ⊥
  last none f n h p = at (ℕ_discrete n count) where
    at : Dec (n ≡ count) → ⊥
    at (yes e) = f (subst P e p)
    at (no g) = none n (omega arith) p

  by : ((n : ℕ) → n < count → P n → ⊥) ⊎ ((n : ℕ) × IsFirstWhere P count n) → Dec (P count)
      → ((n : ℕ) → n < suc count → P n → ⊥) ⊎ ((n : ℕ) × IsFirstWhere P (suc count) n)
  by (inr (n, f)) here = inr (
    n,
    record {
      inside = omega (arith, f.inside);
      here = f.here;
      before = f.before;
    },
  )
  by (inl none) (yes p) = inr (count, record { inside = omega arith; here = p; before = none })
  by (inl none) (no f) = inl (last none f)

-- What a test decides holds or does not.
pub dec_by : {P : Type 0} (b : Bool) → Decides b P → Dec P
dec_by true d = yes (d.0 refl)
dec_by false d = no (λ p. let e : false ≡ true = d.1 p in cc)

-- Where it is known whether a thing holds, it is known whether its denial does.
pub dec_not : {P : Type 0} → Dec P → Dec (P → ⊥)
dec_not (yes p) = no (λ f. f p)
dec_not (no f) = yes f

-- Where it is known whether a thing holds, it holds if its denial does not.
pub by_not_not : {P : Type 0} → Dec P → ((P → ⊥) → ⊥) → P
by_not_not (yes p) h = p
by_not_not (no f) h = absurd (h f)
