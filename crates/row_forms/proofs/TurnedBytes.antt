-- Bytes that are turned one after the other.
use Rattle.std.proofs.Common.{◌≡◌, ◌∙◌, ℕ, ◌+◌, ◌<◌, List, [], ◌∷◌, ◌++◌, ap, arith, drop, drop-drop}
use Rattle.std.proofs.Common.{drop-set-lt, get_or, get_or-drop, length, map, set, sym, take}
use Rattle.std.proofs.lemmas.List.{map-append, take_more, take_more_set}

-- Where those before a place are turned and the others are as they were, one more is.
pub turned-more : (f : ℕ → ℕ) (old items : List ℕ) (i y : ℕ) → i < length items
    → length items ≡ length old → take i items ≡ map f (take i old) → drop i items ≡ drop i old
    → y ≡ f (get_or items i 0)
    → (take (i + 1) (set items i y) ≡ map f (take (i + 1) old))
    × (drop (i + 1) (set items i y) ≡ drop (i + 1) old)
turned-more f old items i y here same done rest is =
    let inside : i < length old = omega (arith, here, same) in
    let first : i + 0 ≡ i = omega arith in
    let at : get_or items i 0 ≡ get_or old i 0 =
    sym (get_or-drop i items 0 0 ∙ ap (λ k. get_or items k 0) first)
    ∙ ap (λ (xs : List ℕ). get_or xs 0 0) rest
    ∙ (get_or-drop i old 0 0 ∙ ap (λ k. get_or old k 0) first) in
    let more : map f (take (i + 1) old) ≡ map f (take i old) ++ (f (get_or old i 0) ∷ []) =
    ap (map f) (take_more old i 0 inside) ∙ map-append f (take i old) (get_or old i 0 ∷ []) in (
      take_more_set items i y here ∙ ap (λ (t : List ℕ). t ++ (y ∷ [])) done
          ∙ ap (λ (z : ℕ). map f (take i old) ++ (z ∷ [])) (is ∙ ap f at) ∙ sym more,
      drop-set-lt (i + 1) items i y (omega arith) ∙ sym (drop-drop 1 i items)
          ∙ ap (drop 1) rest ∙ drop-drop 1 i old,
    )
