-- How a name is kept.
use Rattle.std.proofs.Common.{◌≡◌, ℕ, zero, suc, ◌-◌, Bool, true, List, [], ◌∷◌, ◌++◌, length, take}
use Rattle.std.proofs.Common.{drop, get_or, replicate, nat_eq, ap, refl, sym, ◌∙◌, subst, arith}
use Rattle.std.specs.List.{AllByRecursion}
use Rattle.std.specs.Bool.{Decides}
use Rattle.std.specs.Str.{bytes_eq}
use Rattle.std.proofs.lemmas.Bool.Decides.{Decides-eqb, same_from_decides}
use Rattle.std.proofs.lemmas.List.{take_at, drop-replicate}
use Rattle.std.proofs.lemmas.List.Elements.{recursion_from_All}
use Rattle.std.proofs.lemmas.Slice.Eq.{bytes_eq-Decides, slice_eq-Decides}
use Rattle.adjust_kernel.specs.Names.{IsName, IsPrintable, padded}
use lib.Pointwise.{pointwise}

-- Sixteen kept bytes that are a name and then zeros are that name as it is kept.
pub made : (bytes kept : List ℕ) → kept ≡ bytes ++ drop (length bytes) (replicate 16 0)
    → IsName bytes → (kept ≡ padded (take (length bytes) kept))
    × (length bytes ≡ length (take (length bytes) kept)) × IsName (take (length bytes) kept)
made bytes kept e h =
    let t : take (length bytes) kept ≡ bytes = ap (take (length bytes)) e
    ∙ take_at bytes (drop (length bytes) (replicate 16 0)) (length bytes) refl in (
      e ∙ ap (λ (s : List ℕ). bytes ++ s) (drop-replicate (length bytes) 16 0) ∙ sym (ap padded t),
      sym (ap length t),
      subst IsName (sym t) h,
    )

-- No printable byte is the first of some zeros.
no_zero : (n y : ℕ) (ys : List ℕ) → IsPrintable y → replicate n 0 ≡ y ∷ ys → ⊥
no_zero zero y ys h e = absurd cc
no_zero (suc n) y ys h e = omega (arith, h.0, ap (λ (l : List ℕ). get_or l 0 0) e)

-- Names that are kept alike are one, for no byte of a name is the 0 that follows it.
kept_alike : (xs ys : List ℕ) (n m : ℕ) → AllByRecursion IsPrintable xs
    → AllByRecursion IsPrintable ys → xs ++ replicate n 0 ≡ ys ++ replicate m 0 → xs ≡ ys
kept_alike [] [] n m px py e = refl
kept_alike [] (y ∷ ys) n m px py e = absurd (no_zero n y (ys ++ replicate m 0) py.0 e)
kept_alike (x ∷ xs) [] n m px py e = absurd (no_zero m x (xs ++ replicate n 0) px.0 (sym e))
kept_alike (x ∷ xs) (y ∷ ys) n m px py e =
    ap (λ (b : ℕ). b ∷ xs) (ap (λ (l : List ℕ). get_or l 0 0) e)
    ∙ ap (λ (l : List ℕ). y ∷ l) (kept_alike xs ys n m px.1 py.1 (ap (drop 1) e))

-- The kept bytes of two names are alike exactly where the names are.
pub same_kept : (xs ys kept other : List ℕ) (r : Bool) → r ≡ pointwise nat_eq kept other
    → kept ≡ padded xs → other ≡ padded ys → IsName xs → IsName ys → r ≡ bytes_eq xs ys
same_kept xs ys kept other r e a b valid valid_other =
    same_from_decides r (bytes_eq xs ys) (there, back) (bytes_eq-Decides xs ys)
  where
    decides : Decides r (kept ≡ other)
    decides = slice_eq-Decides Decides-eqb kept other r e

    there : r ≡ true → xs ≡ ys
    there t = kept_alike xs ys (16 - length xs) (16 - length ys)
        (recursion_from_All IsPrintable xs valid.printable)
        (recursion_from_All IsPrintable ys valid_other.printable)
        (sym a ∙ decides.0 t ∙ b)

    back : xs ≡ ys → r ≡ true
    back same = decides.1 (a ∙ ap padded same ∙ sym b)
