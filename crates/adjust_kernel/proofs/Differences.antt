-- Lists that agree at each place, or differ at a first one.
use Rattle.std.proofs.Common.{◌≡◌, ◌≢◌, ℕ, suc, zero, ◌≤◌, ◌<◌, List, [], ◌∷◌, length, take}
use Rattle.std.proofs.Common.{get_or, Option, Some, None, MatchOption, arith, ap, refl, sym, ◌∙◌}
use Rattle.std.specs.Prelude.{◌↔◌, map, IfNone, IfSome}
use Rattle.std.specs.List.{slice_get}
use Rattle.std.specs.Option.{option_map}
use Rattle.std.proofs.lemmas.List.{take_all}
use Rattle.std.proofs.lemmas.Option.{slice_get_past, slice_get-get_or, slice_get-map}
use Rattle.std.proofs.lemmas.Option.{slice_get_read}
use Rattle.adjust_kernel.specs.Firsts.{IsFirstDifference}

module _ {X : Type 0} where
  agree_suc : (xs ys : List X) (i : ℕ) → take i xs ≡ take i ys → slice_get xs i ≡ slice_get ys i
      → take (suc i) xs ≡ take (suc i) ys
  agree_suc [] [] i e f = refl
  agree_suc [] (y ∷ ys) zero e f = cc
  agree_suc [] (y ∷ ys) (suc i) e f = cc
  agree_suc (x ∷ xs) [] zero e f = cc
  agree_suc (x ∷ xs) [] (suc i) e f = cc
  agree_suc (x ∷ xs) (y ∷ ys) zero e f = let g : x ≡ y = cc in ap (λ z. z ∷ []) g
  agree_suc (x ∷ xs) (y ∷ ys) (suc i) e f =
      let g : x ≡ y = cc in
      let h : take i xs ≡ take i ys = cc in
      λ j. g j ∷ agree_suc xs ys i h f j

  agree_to : (xs ys : List X) (n : ℕ) → ((k : ℕ) → k < n → slice_get xs k ≡ slice_get ys k)
      → take n xs ≡ take n ys
  agree_to xs ys zero h = refl
  agree_to xs ys (suc n) h = agree_suc xs ys n (agree_to xs ys n (λ k below. h k (omega arith)))
      (h n (omega arith))

  -- What a search from 0 on finds, up to where both have ended.
  pub first_difference : (xs ys : List X) (n : ℕ) (r : Option ℕ) → length xs ≤ n → length ys ≤ n
      → MatchOption r ((k : ℕ) → 0 ≤ k → k < n → slice_get xs k ≡ slice_get ys k) (λ i. (0 ≤ i)
      × (i < n) × (slice_get xs i ≢ slice_get ys i)
      × ((k : ℕ) → 0 ≤ k → k < i → slice_get xs k ≡ slice_get ys k))
      → IfNone r (xs ≡ ys) × IfSome r (IsFirstDifference xs ys)
  first_difference xs ys n None a b h = (
    sym (take_all n xs a)
        ∙ agree_to xs ys n (λ k below. h k (omega arith) below) ∙ take_all n ys b,
    tt,
  )
  first_difference xs ys n (Some i) a b h = (
    tt,
    record { before = agree_to xs ys i (λ k below. h.3 k (omega arith) below); differ = h.2 },
  )

  -- Lists that have these elements at a place agree there exactly where the two are one.
  pub agree_exactly : (xs ys : List X) (n : ℕ) (x y : X) → slice_get xs n ≡ Some x
      → slice_get ys n ≡ Some y → {P : Type 0} → (P → x ≡ y) → (x ≡ y → P)
      → P ↔ (slice_get xs n ≡ slice_get ys n)
  agree_exactly xs ys n x y e f to from = (
    λ p. e ∙ ap Some (to p) ∙ sym f,
    λ same. let one : Some x ≡ Some y = sym e ∙ same ∙ f in from cc,
  )

  -- Lists that agree at each place before both end are one.
  pub same_lists : (xs ys : List X) (n : ℕ) → length xs ≤ n → length ys ≤ n
      → ((k : ℕ) → k < n → slice_get xs k ≡ slice_get ys k) → xs ≡ ys
  same_lists xs ys n a b h = sym (take_all n xs a) ∙ agree_to xs ys n h ∙ take_all n ys b

  -- Lists that agree before a place differ first at it, where they do.
  pub differ_at : (xs ys : List X) (n : ℕ) → ((k : ℕ) → k < n → slice_get xs k ≡ slice_get ys k)
      → slice_get xs n ≢ slice_get ys n → IsFirstDifference xs ys n
  differ_at xs ys n h d = record { before = agree_to xs ys n h; differ = d }

  -- Where one list has ended and the other has not, they differ.
  pub ended_first : (xs ys : List X) (n : ℕ) → X → length xs ≤ n → n < length ys
      → slice_get xs n ≢ slice_get ys n
  ended_first xs ys n d a b e = let f : None ≡ Some (get_or ys n d) = sym (slice_get_past xs n a)
      ∙ e ∙ slice_get-get_or ys n d b in cc

-- What a list of what each element says has at a place, where the list itself has this there.
pub says_at : {X Y : Type 0} (says : X → Y) (xs : List X) (n : ℕ) (x : X) → n < length xs
    → x ≡ get_or xs n x → slice_get (map says xs) n ≡ Some (says x)
says_at says xs n x inside here = slice_get-map says xs n
    ∙ ap (option_map says) (slice_get_read xs (length xs) n x refl inside here)
