-- Lists that have a property at each place, made one element at a time.
use Rattle.std.proofs.Common.{◌≡◌, ℕ, ◌+◌, ◌<◌, List, [], ◌∷◌, ◌++◌, length, get_or, arith, ap, sym}
use Rattle.std.proofs.Common.{◌∙◌, subst}
use Rattle.std.proofs.lemmas.List.{length-append, get_or_append_left}
use Rattle.std.proofs.Math.Seq.{get_or-append_seam}
use Rattle.sheet_means.specs.Parts.{AreEach}
use native.Mathlib.Decide.{dec_lt}

module _ {X : Type 0} (P : ℕ → X → Type 0) where
  -- A list with one more element, which has the property at its place, has it at each place.
  pub each_more : (n : ℕ) (xs : List X) (x : X) → AreEach P n xs → P n x
      → AreEach P (n + 1) (xs ++ x ∷ [])
  each_more n xs x e p = record {
    long = length-append xs (x ∷ []) ∙ ap (λ k. k + 1) e.long;
    at = λ k d h. by k d h (dec_lt k n);
  }
    where
      by : (k : ℕ) (d : X) → k < n + 1 → Dec (k < n) → P k (get_or (xs ++ x ∷ []) k d)
      by k d h (yes l) = subst (P k) (sym (get_or_append_left xs (x ∷ []) d k
          (omega (arith, e.long)))) (e.at k d l)
      by k d h (no m) =
          let here : k ≡ length xs = omega (arith, e.long) in
          let same : n ≡ k = omega arith in
          let last : get_or (xs ++ x ∷ []) k d ≡ x = ap (λ (j : ℕ). get_or (xs ++ x ∷ []) j d) here
          ∙ get_or-append_seam xs x [] d in
          subst (P k) (sym last) (subst (λ (j : ℕ). P j x) same p)
